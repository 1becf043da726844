-- What the search in windows promises.
use Rattle.std.specs.Prelude.{ℕ, ◌≡◌, Bool, true, false}
use Rattle.windows.specs.Windows.{Windows, windows_in, Formed}
use Rattle.windows.specs.Plans.{Plannable}
use Rattle.windows.specs.Intervals.{overload_of}
use Rattle.windows.specs.declared.types.WindowSet.{WindowSet}
use Rattle.backtracking.specs.Searches.{Search, found, none, spent, trials_of, search_within}
use Rattle.backtracking.specs.Laws.{LimitLaw, UnbrokenLaw}
use Rattle.backtracking.specs.declared.types.Ending.{Ending}
use Rattle.backtracking.specs.declared.types.Ending.TheVariants.{Unsearched, DayFound, NoneExists, TrialsSpent}
use Rattle.backtracking.specs.declared.types.SearchAnswer.{SearchAnswer}

-- how it is said that a search ended
abbrev pub ending_of : Search → Ending
ending_of (found v t) = DayFound
ending_of (none t) = NoneExists
ending_of (spent t) = TrialsSpent

-- whether a day was found
abbrev pub is_found : Ending → Bool
is_found Unsearched = false
is_found DayFound = true
is_found NoneExists = false
is_found TrialsSpent = false

-- how it ended as a number, for other languages; 0 is never told there, since a refusal tells its own values
abbrev pub ending_number : Ending → ℕ
ending_number Unsearched = 0
ending_number DayFound = 1
ending_number NoneExists = 2
ending_number TrialsSpent = 3

-- the windows with the starts fixed where a day was found, else those given
abbrev pub windows_after : Windows → Search → Windows
windows_after w (found v t) = v
windows_after w (none t) = w
windows_after w (spent t) = w

-- the answer says that the search in the windows w ended with x
pub record AnswersSearch (w : Windows) (x : Search) (a : SearchAnswer) : Type 0 where
  pub ending : a.ending ≡ ending_of x
  pub windows : windows_in a.windows ≡ windows_after w x
  pub trials : a.trials ≡ trials_of x

-- what `search_windows` answers of the windows s, whatever they are: a trial asks the overload test. Without a whole entry nothing is
-- tried, so that windows without a plan are found too
pub record SearchesWindows (whole : ℕ → Bool) (s : WindowSet) (limit : ℕ) (a : SearchAnswer) : Type 0 where
  pub says : AnswersSearch (windows_in s) (search_within overload_of limit whole (windows_in s)) a
  pub limits : LimitLaw overload_of whole (windows_in s) limit
  -- the law, for windows with room that have a plan
  pub law : Formed (windows_in s) → Plannable (windows_in s) → UnbrokenLaw overload_of whole (windows_in s) (windows_in s) limit
