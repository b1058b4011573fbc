-- The advance is the greatest that may be, and what follows from that.
use Rattle.std.specs.Prelude.{◌≡◌, ℕ, ◌+◌, ◌-◌, ◌<◌, ◌≤◌, min, max, Bool, true, nat_le}
use Rattle.std.proofs.Common.{arith}
use Rattle.std.proofs.lemmas.Bool.{le-leb, leb-true}
use Rattle.ramp.specs.Advances.{May, Greatest, greatest_to, advance}
use Rattle.ramp.specs.Braking.{braking}
use Rattle.ramp.specs.BrakingLaws.{braking_low, braking_high, braking_above, stop_rises}
use Rattle.ramp.specs.GreatestLaws.{greatest_passes, greatest_within, greatest_most}

module _ (S A D V v R : ℕ) where
  pub advance_greatest : Greatest (May S A D V v R) (advance S A D V v R)
  unfolding advance
  advance_greatest =
      let test : ℕ → Bool = λ u. nat_le (u + braking S D u) R in
      let limit : ℕ = min (max V (v - D)) (max S (v + A)) in
      let u : ℕ = greatest_to limit test in
      let le : u ≤ limit = greatest_within test limit in
      let first : test 0 ≡ true = le-leb (0 + braking S D 0) R (omega (arith, braking_low S D 0 (omega arith))) in
      record {
        holds = record {
          slow = omega arith;
          eased = omega arith;
          stops = leb-true (u + braking S D u) R (greatest_passes test limit first);
        };
        most = λ x m. greatest_most test limit x (omega arith) (le-leb (x + braking S D x) R m.stops);
      }

  pub advance_stops : advance S A D V v R + braking S D (advance S A D V v R) ≤ R
  advance_stops = advance_greatest.holds.stops

  pub advance_least : S ≤ V → min S R ≤ advance S A D V v R
  advance_least h =
      advance_greatest.most (min S R)
      (record { slow = omega arith; eased = omega arith; stops = omega (arith, braking_low S D (min S R) (omega arith)) })

  -- above the start the speed falls by at most D
  pub advance_falls : 0 < D → braking S D v ≤ R → 0 < braking S D v → v - D ≤ advance S A D V v R
  advance_falls d r p =
      advance_greatest.most (v - D)
      (record { slow = omega arith; eased = omega arith; stops = omega (arith, braking_high S D d v (braking_above S D d v p)) })

  -- with just the braking distance to go, it falls by D
  pub advance_braked : 0 < D → R ≡ braking S D v → 0 < braking S D v → advance S A D V v R ≡ v - D
  advance_braked d r p =
      let at_least : v - D ≤ advance S A D V v R = advance_falls d (omega arith) p in
      grind (arith, stop_rises S D d (v - D) (advance S A D V v R), advance_stops, braking_high S D d v (braking_above S D d v p))
