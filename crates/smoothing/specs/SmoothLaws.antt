-- Smoothing over a profile is a profile.
use Rattle.std.specs.Prelude.{◌≡◌, ℕ, ◌+◌, ◌-◌, ◌<◌, ◌≤◌, List, [], ◌∷◌, length, replicate, ◌==◌, ◌≢◌}
use Rattle.std.proofs.Common.{sym, ap, ◌∙◌, subst, ⊎_elim, arith}
use Rattle.std.proofs.lemmas.List.{length-replicate}
use Rattle.std.proofs.lemmas.Bool.{cases_eq, cases_lt, eq-eqb, ne_eqb, cond_both}
use Rattle.profile.specs.Plans.{PlanMeans}
use Rattle.profile.specs.Profiles.{ProfileMeans, Sound, Begun, Ticked, Braked, fastest}
use Rattle.smoothing.specs.Windows.{mean_of, pushed, from_other, ticks_to_equal, Kept}
use Rattle.smoothing.specs.Smoothing.{left_over, smoothing}
use Rattle.smoothing.specs.Pushes.{length_pushed, other_le, other_pushed, same_pushed}
use Rattle.smoothing.specs.Keeps.{kept_pushed, mean_le, mean_alike, mean_unlike, mean_near, mean_replicate}

-- with nothing left below, and with something
left_at_none : (l : ℕ) (ws : List ℕ) → l ≡ 0 → left_over l ws ≡ ticks_to_equal ws
left_at_none l ws e = rw (eq-eqb l 0 e)

left_at_some : (l : ℕ) (ws : List ℕ) → (l ≢ 0) → left_over l ws ≡ l + (length ws - 1)
left_at_some l ws n = rw (ne_eqb l 0 n)

-- at most W - 1 more than below
ticks_le : (ws : List ℕ) → ticks_to_equal ws ≤ length ws - 1
ticks_le [] = omega arith
ticks_le (x ∷ xs) = omega (arith, other_le x xs)

left_le : (l : ℕ) (ws : List ℕ) → left_over l ws ≤ l + (length ws - 1)
left_le l ws =
    cond_both (l == 0) (ticks_to_equal ws) (l + (length ws - 1)) (λ n. n ≤ l + (length ws - 1))
    (λ _. omega (arith, ticks_le ws))
    (λ _. omega arith)

left_fewer : (l l' : ℕ) (ws : List ℕ) → l' ≤ l → left_over l' ws ≤ left_over l ws
left_fewer l l' ws h =
    ⊎_elim
    (λ (z : l ≡ 0). let z' : l' ≡ 0 = omega arith in rw (left_at_none l ws z, left_at_none l' ws z') (omega arith))
    (λ (n : l ≡ 0 → ⊥). omega (arith, n, h, left_at_some l ws n, left_le l' ws))
    (cases_eq l 0)

-- nothing is left exactly when the mean has reached what is asked for
module _ (m : ProfileMeans) (s : Sound m) where
  left_done : (ws : List ℕ) → Kept (fastest m.plan) m.gone ws → left_over m.left ws ≡ 0 → mean_of ws ≡ m.asked
  left_done [] k e = absurd k
  left_done (x ∷ xs) k e =
      ⊎_elim
      (λ (z : m.left ≡ 0).
      let u : from_other x xs ≡ 0 = sym (left_at_none m.left (x ∷ xs) z) ∙ e in
      mean_alike m.gone x xs k.0 u ∙ s.done z)
      (λ (n : m.left ≡ 0 → ⊥). omega (arith, n, e, left_at_some m.left (x ∷ xs) n))
      (cases_eq m.left 0)

  left_over_none : (ws : List ℕ) → Kept (fastest m.plan) m.gone ws → mean_of ws ≡ m.asked → left_over m.left ws ≡ 0
  left_over_none [] k e = absurd k
  left_over_none (x ∷ xs) k e =
      let g : m.gone ≡ m.asked = omega (arith, e, mean_le (fastest m.plan) m.gone (x ∷ xs) k, s.reached) in
      left_at_none m.left (x ∷ xs) (s.over g)
      ∙ ⊎_elim
      (λ (p : 0 < from_other x xs). omega (arith, e, g, mean_unlike (fastest m.plan) m.gone x xs k p))
      (λ (q : from_other x xs ≤ 0). omega arith)
      (cases_lt 0 (from_other x xs))

  pub sound_smooth : (ws : List ℕ) → Kept (fastest m.plan) m.gone ws → Sound (smoothing m ws)
  sound_smooth ws k =
      let le : mean_of ws ≤ m.gone = mean_le (fastest m.plan) m.gone ws k in
      record {
        reached = omega (arith, le, s.reached);
        near = s.near;
        done = left_done ws k;
        over = left_over_none ws k;
        lawful = s.lawful;
        blank = λ e.
            let b = s.blank e in
            let z : mean_of ws ≡ m.asked = omega (arith, le, b.0, b.1) in
            (b.0, omega (arith, z, b.0), left_over_none ws k z);
      }

-- a new plan below, with zeros kept
pub begun_smooth :
    (m m' : ProfileMeans) (p : PlanMeans) (ws ws' : List ℕ) → 0 < length ws → Begun m p m' → ws' ≡ replicate (length ws) 0
    → Begun (smoothing m ws) p (smoothing m' ws')
begun_smooth m m' p ws ws' some b e =
    let n : length ws' ≡ length ws = ap length e ∙ length-replicate (length ws) 0 in
    let y : mean_of ws' ≡ 0 = ap mean_of e ∙ mean_replicate (length ws) 0 some in
    record {
      after =
          ap (λ x. record { plan = x.plan; asked = x.asked; gone = mean_of ws'; left = left_over m'.left ws'; lag = x.lag + (length ws' - 1) }) b.after
          ∙ rw (y, n);
      soon = omega (arith, n, left_le m'.left ws', b.soon);
    }

-- what a profile that means m means after a tick that answers a
abbrev stepped : ProfileMeans → ℕ → ProfileMeans
stepped m a = record { plan = m.plan; asked = m.asked; gone = m.gone + a; left = m.left - 1; lag = m.lag }

module _
    (m : ProfileMeans)
    (a : ℕ)
    (s : Sound m)
    (s' : Sound (stepped m a))
    (idle : m.left ≡ 0 → a ≡ 0)
    (within : a ≤ fastest m.plan) where
  left_falls :
      (ws : List ℕ) → Kept (fastest m.plan) m.gone ws
      → left_over (m.left - 1) (pushed (m.gone + a) ws) ≡ left_over m.left ws - 1
  left_falls [] k = absurd k
  left_falls (x ∷ xs) k =
      ⊎_elim
      (λ (z : m.left ≡ 0).
      let y : m.left - 1 ≡ 0 = omega arith in
      let g : m.gone + a ≡ x = omega (arith, idle z, k.0) in
      rw (left_at_none m.left (x ∷ xs) z, left_at_none (m.left - 1) (pushed (m.gone + a) (x ∷ xs)) y, g) (same_pushed x xs))
      (λ (n : m.left ≡ 0 → ⊥).
      ⊎_elim
      (λ (y : m.left - 1 ≡ 0).
      let h : m.gone + a ≡ x → ⊥ = λ e. n (s.over (omega (arith, e, k.0, s'.done y))) in
      rw (left_at_some m.left (x ∷ xs) n, left_at_none (m.left - 1) (pushed (m.gone + a) (x ∷ xs)) y)
      (omega (arith, y, n, other_pushed (m.gone + a) x xs h)))
      (λ (y : m.left - 1 ≡ 0 → ⊥).
      rw (left_at_some m.left (x ∷ xs) n, left_at_some (m.left - 1) (pushed (m.gone + a) (x ∷ xs)) y)
      (omega (arith, y, n, length_pushed (m.gone + a) (x ∷ xs))))
      (cases_eq (m.left - 1) 0))
      (cases_eq m.left 0)

  ticked :
      (ws : List ℕ) (r : ℕ) → Kept (fastest m.plan) m.gone ws → mean_of ws + r ≡ mean_of (pushed (m.gone + a) ws)
      → Ticked (smoothing m ws) r (smoothing (stepped m a) (pushed (m.gone + a) ws))
  ticked ws r k e =
      let v : ℕ = m.gone + a in
      let from : m.gone ≤ v = omega arith in
      let to : v ≤ m.gone + fastest m.plan = omega arith in
      let k' : Kept (fastest m.plan) v (pushed v ws) = kept_pushed (fastest m.plan) m.gone v ws k from to in
      record {
        idle = λ z. omega (arith, e, (sound_smooth (stepped m a) s' (pushed v ws) k').reached, left_done m s ws k z);
        within = omega (arith, e, mean_near (fastest m.plan) m.gone v from to ws k);
        after = rw (left_falls ws k, ← e, length_pushed v ws);
      }

-- a tick below, whose new value is kept
pub ticked_smooth :
    (m m' : ProfileMeans) (a : ℕ) (ws ws' : List ℕ) (r : ℕ) → Sound m → Sound m' → Ticked m a m' → Kept (fastest m.plan) m.gone ws
    → ws' ≡ pushed m'.gone ws → mean_of ws + r ≡ mean_of ws' → Ticked (smoothing m ws) r (smoothing m' ws')
ticked_smooth m m' a ws ws' r s s' b k kept rise =
    let P : ProfileMeans → Type 0
    = λ x. Sound x → ws' ≡ pushed x.gone ws → Ticked (smoothing m ws) r (smoothing x ws') in
    subst P (sym b.after) (λ t e. rw e (ticked m a s t b.idle b.within ws r k (rise ∙ ap mean_of e))) s' kept

-- a brake below, which leaves the values kept as they are
pub braked_smooth :
    (m m' : ProfileMeans) (ws ws' : List ℕ) → Kept (fastest m.plan) m.gone ws → Braked m m' → ws' ≡ ws
    → Braked (smoothing m ws) (smoothing m' ws')
braked_smooth m m' ws ws' k b e =
    rw e
    (record {
      after =
          ap (λ x. record { plan = x.plan; asked = m'.asked; gone = mean_of ws; left = left_over m'.left ws; lag = x.lag + (length ws - 1) }) b.after;
      less = b.less;
      kept = omega (arith, mean_le (fastest m.plan) m.gone ws k, b.kept);
      sooner = left_fewer m.left m'.left ws b.sooner;
      soon = omega (arith, left_le m'.left ws, b.soon);
      blank = λ z. ap (λ x. smoothing x ws) (b.blank z);
    })
