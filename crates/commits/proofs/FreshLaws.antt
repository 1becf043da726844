-- What making a fresh day answers, in facts.
-- Assumes nothing.
use mathlib.Core.Path.{◌≡◌, refl, sym, ◌∙◌}
use mathlib.Core.Bool.{false≢true}
use native.Mathlib.Omega.{arith}
use lib.ListN.{length}
use lib.Seq.{length-take-le}
use Rattle.base.specs.Outcomes.{Outcome, answered, refused}
use Rattle.list.specs.DayLists.{entries_of, SameList}
use Rattle.list.proofs.Answered.{one_answer}
use Rattle.list.specs.declared.types.DayList.{DayList}
use Rattle.std.specs.Prelude.{Result, Ok}
use Rattle.list.specs.declared.types.Refusal.{Refusal}
use Rattle.list.proofs.Sound.{sound_list}
use Rattle.narrow.specs.Rounds.{Narrowed}
use Rattle.planner.specs.Calls.{planning}
use Rattle.commits.specs.Days.{trimmed}
use Rattle.commits.specs.Calls.{fresh_of, MakesDay}
use Rattle.commits.specs.Laws.{FreshLaw}
use Rattle.commits.specs.declared.types.StampedDay.{StampedDay}
use Rattle.commits.proofs.EntryLaws.{entries_are}
use Rattle.commits.proofs.RunLaws.{CanBePlanned, can_formed}

same : (l : DayList) → length l.entries ≡ 64 → CanBePlanned l → SameList (trimmed l) l
same l long can =
    let room = (sound_list l (can_formed l can)).header.room in
    record {
      frame = refl;
      n = length-take-le l.n l.entries (omega (arith, long, room));
      entries = entries_are l.frame (entries_of l);
    }

module _ {l : DayList} {a : Result StampedDay Refusal} (long : length l.entries ≡ 64) (w : MakesDay l a) where
  pub fresh_law : FreshLaw l a
  fresh_law = record { made = made; turned_back = λ k q. w ∙ rw q refl }
    where
      made : CanBePlanned l → (d : StampedDay) × (a ≡ Ok d) × SameList d.list l × (d.stamp ≡ 0)
      made can = go (planning l) refl
        where
          go : (o : Outcome Narrowed) → planning l ≡ o → (d : StampedDay) × (a ≡ Ok d) × SameList d.list l × (d.stamp ≡ 0)
          go (refused k) q = absurd (false≢true (sym (rw q refl) ∙ can))
          go (answered v) q =
              let told : fresh_of l ≡ answered (record { list = trimmed l; stamp = 0 }) = rw q refl in
              (record { list = trimmed l; stamp = 0 }, one_answer a (Ok (record { list = trimmed l; stamp = 0 })) (w ∙ told), same l long can, refl)
