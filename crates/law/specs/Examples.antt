-- Short runs, told moment by moment, that meet what the clauses of the law speak of: a move under way, a pause, a hold, a full stop, a
-- move that completes. So no clause is empty. Starting speed, acceleration and deceleration are 100 in each.
use Rattle.std.specs.Prelude.{ℕ, ◌+◌, Bool, true, false, cond, ◌&&◌, List, [], ◌∷◌, ◌++◌, pos, Some, None, Ok, Option, ◌==◌}
use Rattle.drive.specs.Positions.{distance}
use Rattle.profile.specs.Plans.{PlanMeans}
use Rattle.law.specs.Accounts.{Account, Timing, Rest, first_account, account_after}
use Rattle.law.specs.Calls.{Call, SetUp, Block, Event, Tick, Answer, Replied, Sent}
use Rattle.law.specs.Journeys.{Journey, none, on, pausing, held}
use Rattle.law.specs.Moments.{Moment, view_of}

-- the words of a block: command bits, options, place, speed, acceleration, deceleration, dwell
abbrev block : ℕ → ℕ → ℕ → ℕ → ℕ → Call
block bits options place speed dwell =
    Block (pos bits ∷ pos options ∷ pos 0 ∷ pos place ∷ pos 0 ∷ pos speed ∷ pos 100 ∷ pos 100 ∷ pos dwell ∷ pos 0 ∷ [])

-- a plan of one row at a speed of 300
abbrev plan : ℕ → PlanMeans
plan n = record { start = 100; accel = 100; decel = 100; rows = record { steps = n; speed = 300 } ∷ [] }

-- a moment after which the position is so, Move_Complete so, and of a plan so much has gone of what is asked for
abbrev moment : Call → Answer → ℕ → Bool → Option PlanMeans → ℕ → ℕ → Moment
moment c r place complete p asked gone =
    record {
      call = c;
      answer = r;
      seen = record {
        words = pos (16384 + cond complete 128 0) ∷ pos 0 ∷ pos 0 ∷ pos place ∷ pos 0 ∷ pos 0 ∷ pos 0 ∷ pos 0 ∷ pos 0 ∷ pos 0 ∷ [];
        drive = record { place = pos place; tripped = false };
        profile = record { plan = p; asked = asked; gone = gone; left = 0; lag = 0 };
      };
    }

-- accepted
abbrev done : Answer
done = Replied (Ok tt)

-- set up, preset to 0, and sent two steps clockwise
abbrev sent_two : List Moment
sent_two =
    moment (SetUp (pos 100)) done 0 false None 0 0
    ∷ moment (block 512 0 0 0 0) done 0 false None 0 0
    ∷ moment (block 2 0 2 300 0) done 0 false (Some (plan 2)) 2000 0
    ∷ []

-- its nine ticks
abbrev two_gone : List Moment
two_gone =
    moment Tick (Sent (pos 0)) 0 false (Some (plan 2)) 2000 100
    ∷ moment Tick (Sent (pos 0)) 0 false (Some (plan 2)) 2000 300
    ∷ moment Tick (Sent (pos 0)) 0 false (Some (plan 2)) 2000 600
    ∷ moment Tick (Sent (pos 0)) 0 false (Some (plan 2)) 2000 900
    ∷ moment Tick (Sent (pos 1)) 1 false (Some (plan 2)) 2000 1200
    ∷ moment Tick (Sent (pos 0)) 1 false (Some (plan 2)) 2000 1500
    ∷ moment Tick (Sent (pos 0)) 1 false (Some (plan 2)) 2000 1766
    ∷ moment Tick (Sent (pos 0)) 1 false (Some (plan 2)) 2000 1933
    ∷ moment Tick (Sent (pos 1)) 2 true (Some (plan 2)) 2000 2000
    ∷ []

-- its first three ticks, and a hold: it is to go 900 millisteps in all
abbrev two_held : List Moment
two_held =
    moment Tick (Sent (pos 0)) 0 false (Some (plan 2)) 2000 100
    ∷ moment Tick (Sent (pos 0)) 0 false (Some (plan 2)) 2000 300
    ∷ moment Tick (Sent (pos 0)) 0 false (Some (plan 2)) 2000 600
    ∷ moment (block 4 0 0 0 0) done 0 false (Some (plan 2)) 900 600
    ∷ moment Tick (Sent (pos 0)) 0 false (Some (plan 2)) 900 800
    ∷ moment Tick (Sent (pos 0)) 0 false (Some (plan 2)) 900 900
    ∷ []

-- it is resumed
abbrev resumed : List Moment
resumed = moment (block 8 0 0 300 0) done 0 false (Some (plan 2)) 2000 0 ∷ []

-- the drive trips
abbrev trips : List Moment
trips = moment (Event (pos 7)) done 0 false (Some (plan 2)) 2000 0 ∷ []

-- set up, preset, two rows of one step programmed, and run as a dwell move of three ticks between them
abbrev runs : List Moment
runs =
    moment (SetUp (pos 100)) done 0 false None 0 0
    ∷ moment (block 512 0 0 0 0) done 0 false None 0 0
    ∷ moment (block 2048 0 0 0 0) done 0 false None 0 0
    ∷ moment (block 6144 0 1 300 0) done 0 false None 0 0
    ∷ moment (block 2048 0 0 0 0) done 0 false None 0 0
    ∷ moment (block 6144 0 1 300 0) done 0 false None 0 0
    ∷ moment (block 0 0 0 0 0) done 0 false None 0 0
    ∷ moment (block 8192 1 0 0 3) done 0 false (Some (plan 1)) 1000 0
    ∷ []

-- the six ticks of the first row
abbrev row_gone : List Moment
row_gone =
    moment Tick (Sent (pos 0)) 0 false (Some (plan 1)) 1000 100
    ∷ moment Tick (Sent (pos 0)) 0 false (Some (plan 1)) 1000 300
    ∷ moment Tick (Sent (pos 0)) 0 false (Some (plan 1)) 1000 600
    ∷ moment Tick (Sent (pos 0)) 0 false (Some (plan 1)) 1000 833
    ∷ moment Tick (Sent (pos 0)) 0 false (Some (plan 1)) 1000 966
    ∷ moment Tick (Sent (pos 1)) 1 false (Some (plan 1)) 1000 1000
    ∷ []

-- the first tick of the pause
abbrev waits : List Moment
waits = moment Tick (Sent (pos 0)) 1 false (Some (plan 1)) 1000 1000 ∷ []

-- the account after some moments
unfoldable pub account_of : Account → List Moment → Account
account_of a [] = a
account_of a (m ∷ ms) = account_of (account_after a m.call m.answer (view_of m.seen)) ms

-- the account after some moments from power-up on, over a drive at 0 and a profile without a plan
unfoldable pub told_of : List Moment → Account
told_of ms = account_of (first_account (record { place = pos 0; tripped = false }) (record { plan = None; asked = 0; gone = 0; left = 0; lag = 0 })) ms

-- what some moments lead to
pub data Example : Type 0 where
  -- a move is under way, with so many ticks allowed and passed
  under_way : List Moment → (allowed passed : ℕ) → Example
  -- since a hold or a full stop so many ticks may send steps, and so many did
  at_rest : List Moment → (allowed sent : ℕ) → Example
  -- so much of a pause has been waited
  in_pause : List Moment → (waited : ℕ) → Example
  -- a leg is held
  is_held : List Moment → Example
  -- Move_Complete is on, at the place where the move was sent
  arrives : List Moment → (place : ℕ) → Example

-- a move is under way, with so many ticks allowed and passed
abbrev timing_is : Option Timing → ℕ → ℕ → Bool
timing_is None a p = false
timing_is (Some t) a p = t.allowed == a && t.passed == p

-- after a hold or a full stop so many ticks may send steps, and so many did
abbrev rest_is : Option Rest → ℕ → ℕ → Bool
rest_is None a n = false
rest_is (Some r) a n = r.allowed == a && r.sent == n

-- in a pause of which so many ticks have been waited
abbrev waited_is : Journey → ℕ → Bool
waited_is none n = false
waited_is (on x l ls w) n = false
waited_is (pausing u x l ls w) n = u == n
waited_is (held x l) n = false

-- on a leg that is held
abbrev held_is : Journey → Bool
held_is none = false
held_is (on x l ls w) = false
held_is (pausing u x l ls w) = false
held_is (held x l) = true

-- whether an example is so, computed by the law's own definitions
unfoldable pub example_holds : Example → Bool
example_holds (under_way ms a p) = timing_is (told_of ms).underway a p
example_holds (at_rest ms a n) = rest_is (told_of ms).resting a n
example_holds (in_pause ms u) = waited_is (told_of ms).journey u
example_holds (is_held ms) = held_is (told_of ms).journey
example_holds (arrives ms x) = let a : Account = told_of ms in a.view.complete && (distance a.view.position (pos x) == 0 && distance a.target (pos x) == 0)

-- the examples
unfoldable pub examples : List Example
examples =
    under_way sent_two 20 0
    ∷ arrives (sent_two ++ two_gone) 2
    ∷ is_held (sent_two ++ two_held)
    ∷ at_rest (sent_two ++ two_held) 2 0
    ∷ under_way (sent_two ++ (two_held ++ resumed)) 20 0
    ∷ arrives (sent_two ++ (two_held ++ (resumed ++ two_gone))) 2
    ∷ at_rest (sent_two ++ trips) 0 0
    ∷ under_way runs 23 0
    ∷ in_pause (runs ++ row_gone) 0
    ∷ in_pause (runs ++ (row_gone ++ waits)) 1
    ∷ []
