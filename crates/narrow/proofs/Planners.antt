-- What the laws of narrowing ask of a planner's test.
-- Assumes nothing.
use mathlib.Core.Path.{◌≡◌}
use mathlib.Core.Logic.{◌↔◌}
use Rattle.base.specs.Outcomes.{Code, answered, refused}
use Rattle.windows.specs.Windows.{Windows, Formed}
use Rattle.windows.specs.Intervals.{ShowsOverload}
use Rattle.windows.specs.Plans.{Plannable}
use Rattle.narrow.specs.Searching.{Test}

-- a test that accepts windows with room exactly when a plan exists, and else shows the interval of row 9
pub record Planner (test : Test) : Type 0 where
  pub exact : (w : Windows) → Formed w → Plannable w ↔ (test w ≡ answered tt)
  pub shown : (w : Windows) → Formed w → (k : Code) → test w ≡ refused k → ShowsOverload w k
