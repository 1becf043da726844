-- The loop's invariant is what the first x positions stored.
-- Assumes nothing.
use Rattle.order.specs.Orders.{value_at}
use Rattle.windows.specs.Windows.{windows_in}
use Rattle.edges.specs.Internal.{AtPlaces}
use Rattle.edges.proofs.ends.at_places.Given as goal

abbrev pub invariant-loop-x : goal.invariant-loop-x
invariant-loop-x l = AtPlaces (windows_in l.by_release.windows).n (value_at l.by_release.order) l.ends l.x l.places
