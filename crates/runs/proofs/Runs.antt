-- A run with one more call.
use Rattle.std.proofs.Common.{◌≡◌, ℕ, ◌≤◌, true, List, [], ◌∷◌, ◌++◌, map, refl, sym, ap, ap₂, ◌∙◌}
use Rattle.drive.specs.Drives.{DriveMeans}
use Rattle.drive.specs.Positions.{is_position}
use Rattle.profile.specs.Profiles.{ProfileMeans}
use Rattle.axis.specs.Axes.{AxisMeans, powered_up}
use Rattle.law.proofs.Lawfulness.{lawful}
use Rattle.law.specs.Moments.{Moment}
use Rattle.law.specs.Runs.{Step, Run, none, more}
use Rattle.runs.specs.Journals.{call_means, entry_means, noted, CallMade, Ran}
use Rattle.runs.specs.declared.call.Call.{Call}
use Rattle.runs.specs.declared.entry.Entry.{Entry}

map_more : {X Y : Type 0} (f : X → Y) (xs : List X) (x : X) → map f (xs ++ x ∷ []) ≡ map f xs ++ f x ∷ []
map_more f [] x = refl
map_more f (y ∷ xs) x = ap (λ zs. f y ∷ zs) (map_more f xs x)

run_more : {g : ℕ} {m m₁ m₂ : AxisMeans} {os : List Moment} {o : Moment} → Run g m os m₁ → Step g m₁ o m₂ → Run g m (os ++ o ∷ []) m₂
run_more none s = more s none
run_more (more t r) s = more t (run_more r s)

-- over a drive that goes 1 to 200 steps at once and stands at a position
module _ (g : ℕ) (d : DriveMeans) (p : ProfileMeans) (l : 1 ≤ g) (h : g ≤ 200) (here : is_position d.place ≡ true) where
  pub ran_none : Ran g d p [] [] (powered_up d p)
  ran_none = record { moments = []; run = none; calls = refl; journal = refl; lawful = tt }

  pub ran_more : (cs : List Call) (es es' : List Entry) (m m' : AxisMeans) (c : Call) → Ran g d p cs es m → CallMade g m es (call_means c) m' es' → Ran g d p (cs ++ c ∷ []) es' m'
  ran_more cs es es' m m' c r n =
      let os = r.moments ++ n.moment ∷ [] in
      let run = run_more r.run n.step in
      record {
        moments = os;
        run = run;
        calls = map_more (λ (o : Moment). o.call) r.moments n.moment ∙ (ap₂ (λ xs x. xs ++ x ∷ []) r.calls n.call ∙ sym (map_more call_means cs c));
        journal = map_more noted r.moments n.moment ∙ (ap₂ (λ xs x. xs ++ x ∷ []) r.journal (sym n.notes) ∙ (sym (map_more entry_means es n.entry) ∙ ap (map entry_means) (sym n.adds)));
        lawful = lawful g l h d p os m' here run;
      }
