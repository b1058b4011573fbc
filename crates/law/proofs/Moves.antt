-- Accepted moves.
use Rattle.std.proofs.Common.{◌≡◌, ℕ, zero, suc, ◌+◌, ◌*◌, ◌<◌, ◌≤◌, true, List, [], ◌∷◌, map, ℤ, pos, ◌+ℤ◌, nat_abs, Some, Ok, refl, sym, ap, ◌∙◌, subst, arith}
use Rattle.std.proofs.lemmas.Bool.{or_right, false≢true, cond_both}
use Rattle.std.proofs.lemmas.Int.{ints}
use lib.Signed.{lt_z}
use Rattle.std.proofs.Math.IntN.{+ℤ_assoc}
use Rattle.drive.proofs.Landings.{signed_stays, toward_reaches}
use Rattle.drive.specs.Directions.{signed, toward}
use Rattle.drive.specs.Positions.{distance}
use Rattle.drive.specs.declared.direction.Direction.TheVariants.{Cw, Ccw}
use Rattle.profile.specs.Plans.{PlanMeans, Lawful, plan_steps}
use Rattle.profile.specs.Profiles.{ProfileMeans, Sound, LawfulOf, Begun, plan_ticks}
use Rattle.profile.specs.Rows.{steps_of}
use Rattle.profile.specs.declared.row.Row.{Row}
use Rattle.block.specs.declared.frame.Block.{Block}
use Rattle.table.specs.Segments.{row_of, way_of}
use Rattle.table.specs.declared.segment.Segment.{Segment}
use Rattle.axis.specs.Axes.{AxisMeans}
use Rattle.axis.specs.Carrying.{began}
use Rattle.axis.specs.declared.state.Kind.{Kind}
use Rattle.law.proofs.Changes.{good_by}
use Rattle.law.proofs.Facts.{plain, Trace, legs_end, later, pause_of, Aims, Holds}
use Rattle.law.proofs.Goods.{Good}
use Rattle.law.proofs.Legs.{some_steps}
use Rattle.law.specs.Accounts.{Account, Moves, ordered, effect_of, kept_after, levels_after, start_after, rows_after, row_leg, sum_of}
use Rattle.law.specs.Calls.{Call, Replied}
use Rattle.law.specs.Journeys.{Leg, on, end_of_leg, begun_journey, later_ticks, move_ticks}
use Rattle.law.specs.Law.{CallLaw, Stands}

-- the account of an axis whose kept word was another before the block
abbrev pub older : AxisMeans → Trace → ℕ → Account
older k t w =
    record {
      view = plain k;
      counted = k.drive.place;
      kept = w;
      levels = k.memory.levels;
      start = k.memory.table.start;
      rows = t.rows;
      target = t.target;
      journey = t.journey;
      underway = t.underway;
      resting = t.resting;
    }

some_left : (p : ProfileMeans) (n : ℕ) → 0 < n → p.asked ≡ 1000 * n → p.gone ≡ 0 → Sound p → 0 < p.left
some_left p n l a z s = on p.left refl
  where
    on : (x : ℕ) → p.left ≡ x → 0 < p.left
    on zero e = absurd (omega (arith, l, a, z, s.done e))
    on (suc x) e = omega (arith, e)

-- a move that sets out along legs, of which the first is begun
pub move_good :
    (g : ℕ) (k : AxisMeans) (t : Trace) (w : ℕ) (c : Call) (ws : List ℤ) (to : ℤ) (leg : Leg) (ls legs : List Leg) (pause : ℕ) (kind : Kind) (p : ProfileMeans)
    → Holds k t → legs ≡ leg ∷ ls → later k.memory.table kind ≡ ls → pause_of kind ≡ pause → Aims kind to → legs_end (end_of_leg k.drive.place leg) ls ≡ to
    → Begun k.profile leg.plan p → Sound p
    → effect_of (older k t w) c (Replied (Ok tt)) ≡ Moves to (record { legs = legs; pause = pause })
    → rows_after t.rows (ordered w c true) ≡ t.rows
    → kept_after w c ≡ k.memory.kept → levels_after k.memory.levels c ≡ k.memory.levels → start_after k.memory.table.start c true ≡ k.memory.table.start
    → Stands (older k t w) (Moves to (record { legs = legs; pause = pause }))
    → CallLaw g (older k t w) c (Replied (Ok tt)) ws (plain (began k (record { direction = leg.way; kind = kind }) p))
    → Good g (older k t w) c (Replied (Ok tt)) ws (began k (record { direction = leg.way; kind = kind }) p)
move_good g k t w c ws to leg ls legs pause kind p h is_legs is_later is_pause aims ends b s ef ro ke le st sd ca =
    let m' = began k (record { direction = leg.way; kind = kind }) p in
    let plan : p.plan ≡ Some leg.plan = ap (λ (y : ProfileMeans). y.plan) b.after in
    let asked : p.asked ≡ 1000 * plan_steps leg.plan = ap (λ (y : ProfileMeans). y.asked) b.after in
    let gone : p.gone ≡ 0 = ap (λ (y : ProfileMeans). y.gone) b.after in
    let lag : p.lag ≡ k.profile.lag = ap (λ (y : ProfileMeans). y.lag) b.after in
    let lawful : Lawful leg.plan = subst LawfulOf plan s.lawful in
    let busy : 0 < p.left = some_left p (plan_steps leg.plan) (some_steps leg.plan lawful) asked gone s in
    good_by (Moves to (record { legs = legs; pause = pause })) t.rows ef ro refl ke le st
    (record {
      rows = λ r. h.rows (or_right _ _ r);
      moving = record {
        from = k.drive.place;
        leg = leg;
        journey = ap (λ x. begun_journey k.drive.place x pause) is_legs ∙ (ap (λ x. on k.drive.place leg x pause) (sym is_later) ∙ ap (λ x. on k.drive.place leg (later k.memory.table kind) x) (sym is_pause));
        leg_is = record { way_is = refl; plan_is = plan; keeps_up = rw gone (sym (signed_stays leg.way k.drive.place)) };
        asked = asked;
        busy = busy;
        aims = aims;
        ends = ap (legs_end (end_of_leg k.drive.place leg)) is_later ∙ ends;
        timed =
            (let more : later_ticks p.lag (pause_of kind) (later k.memory.table kind) ≡ later_ticks p.lag pause ls = ap (λ x. later_ticks p.lag x (later k.memory.table kind)) is_pause ∙ ap (later_ticks p.lag pause) is_later in
            let all : move_ticks p.lag pause legs ≡ plan_ticks leg.plan p.lag + later_ticks p.lag pause ls = ap (move_ticks p.lag pause) is_legs in
            let soon : p.left ≤ plan_ticks leg.plan p.lag = rw lag b.soon in
            omega (arith, more, all, soon));
        free = refl;
      };
    })
    (omega arith) ca refl (λ x y. absurd (false≢true y)) sd

-- where the legs of some rows end
one_row : (r : Row) → steps_of (r ∷ []) ≡ r.steps
unfolding steps_of
one_row r = omega arith

leads : (from d : ℤ) → from +ℤ signed (toward (pos 0) d) (nat_abs d) ≡ from +ℤ d
leads from d = cond_both (lt_z d (pos 0)) Ccw Cw (λ way. from +ℤ signed way (nat_abs d) ≡ from +ℤ d) (λ e. grind (arith, ints)) (λ e. grind (arith, ints))

row_leads : (S : ℕ) (b : Block) (x : ℤ) (s : Segment) → end_of_leg x (row_leg S b s) ≡ x +ℤ s.distance
row_leads S b x s = ap (λ n. x +ℤ signed (way_of s) n) (one_row (row_of s)) ∙ leads x s.distance

no_steps : (x : ℤ) → x ≡ x +ℤ pos 0
no_steps x = grind (arith, ints)

pub rows_end : (S : ℕ) (b : Block) (x : ℤ) (ss : List Segment) → legs_end x (map (row_leg S b) ss) ≡ x +ℤ sum_of ss
rows_end S b x [] = no_steps x
rows_end S b x (s ∷ ss) = rows_end S b (end_of_leg x (row_leg S b s)) ss ∙ (ap (λ z. z +ℤ sum_of ss) (row_leads S b x s) ∙ +ℤ_assoc x s.distance (sum_of ss))

-- a single leg ends at its target
pub single_ends : (x to : ℤ) (plan : PlanMeans) (v : ℕ) → plan.rows ≡ record { steps = distance x to; speed = v } ∷ [] → x +ℤ signed (toward x to) (plan_steps plan) ≡ to
single_ends x to plan v e = ap (λ rs. x +ℤ signed (toward x to) (steps_of rs)) e ∙ (ap (λ n. x +ℤ signed (toward x to) n) (one_row (record { steps = distance x to; speed = v })) ∙ toward_reaches x to)
