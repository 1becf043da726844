-- The ends by position, in the one order of the places, each stored at its place.
-- Assumes nothing.
use Rattle.edges.proofs.EndLaws.{end_law}
use Rattle.edges.proofs.EndCases.{ends_all}
use Rattle.edges.proofs.ends.closed_ends.Goals as goal

pub returns : goal.returns
returns c =
    record {
      ends =
          rw c.of-by_release.ensures.windows_are at
          (ends_all _ _ _ _ c.of-by_release.result.latest_release_first c.ends_by_position-ends.ensures c.at_places.ensures);
      law = λ formed planned k place. end_law _ formed planned k place;
    }
