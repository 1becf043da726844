-- The overload test is a planner's test: the one place where narrowing cites the law that a plan exists exactly without overload.
-- Assumes nothing.
use Rattle.windows.specs.Intervals.{overload_of}
use Rattle.windows.proofs.Room.{formed_roomy}
use Rattle.jackson.proofs.Law.{plan_law}
use Rattle.narrow.proofs.Planners.{Planner}

pub overload_planner : Planner overload_of
overload_planner =
    record {
      exact = λ w formed. (plan_law w (formed_roomy w formed) formed.few).accepted;
      shown = λ w formed. (plan_law w (formed_roomy w formed) formed.few).shown;
    }
