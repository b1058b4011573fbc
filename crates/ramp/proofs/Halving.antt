-- One turn of the search for the greatest speed that stops in time.
use Rattle.std.proofs.Common.{◌≡◌, ℕ, suc, ◌+◌, ◌-◌, ◌*◌, ◌^◌, ◌<◌, ◌≤◌, ap, pow-suc, arith}
use Rattle.ramp.specs.Advances.{Greatest}
use Rattle.ramp.specs.Braking.{braking}
use Rattle.ramp.specs.BrakingLaws.{braking_low, stop_rises}

half : (turn : ℕ) → turn < 18 → 2 ^ (18 - turn) ≡ 2 * 2 ^ (18 - (turn + 1))
half turn h =
    let e : 18 - turn ≡ suc (18 - (turn + 1)) = omega arith in
    omega (arith, ap (λ n. 2 ^ n) e, pow-suc 2 (18 - (turn + 1)))

module _ (S D limit rest : ℕ) where
  -- `low` stops in time, what does is at most `high`, and the gap is halved with each turn
  pub record Between (low high turn : ℕ) : Type 0 where
    pub order : low ≤ high
    pub limited : high ≤ limit
    pub stops : low + braking S D low ≤ rest
    pub most : (x : ℕ) → x ≤ limit → x + braking S D x ≤ rest → x ≤ high
    pub near : high < low + 2 ^ (18 - turn)

  pub between_first : limit ≤ 200000 → Between 0 limit 0
  between_first h =
      record {
        order = omega arith;
        limited = omega arith;
        stops = omega (arith, braking_low S D 0 (omega arith));
        most = λ x p q. p;
        near = omega arith;
      }

  module _ (low high turn : ℕ) (h : Between low high turn) (t : turn < 18) (m : ℕ) (over : low < m) (mid : 2 * m ≤ low + high + 1) (mid' : low + high ≤ 2 * m) where
    pub between_up : m + braking S D m ≤ rest → Between m high (turn + 1)
    between_up r =
        record { order = omega (arith, h.order); limited = h.limited; stops = r; most = h.most; near = omega (arith, h.near, half turn t) }

    pub between_down : 0 < D → rest < m + braking S D m → Between low (m - 1) (turn + 1)
    between_down d r =
        record {
          order = omega arith;
          limited = omega (arith, h.limited, h.order);
          stops = h.stops;
          most = λ x p q. grind (arith, stop_rises S D d m x);
          near = omega (arith, h.near, half turn t);
        }

  -- where one speed is left
  pub between_one : (low high turn : ℕ) → high ≤ low → Between low high turn → Greatest (λ u. (u ≤ limit) × (u + braking S D u ≤ rest)) low
  between_one low high turn n h =
      record { holds = (omega (arith, h.order, h.limited), h.stops); most = λ x p. omega (arith, h.most x p.0 p.1) }

  -- as at the end
  pub between_last : (low high turn : ℕ) → 18 ≤ turn → Between low high turn → Greatest (λ u. (u ≤ limit) × (u + braking S D u ≤ rest)) low
  between_last low high turn t h =
      let z : 18 - turn ≡ 0 = omega arith in
      between_one low high turn (omega (arith, h.near, ap (λ n. 2 ^ n) z)) h
