-- Bytes after a list, as one statement; `front_examples` of proofs/Examples.antt proves it.
use Rattle.std.specs.Prelude.{◌≡◌, List, [], ◌∷◌, ◌++◌, ℕ}
use Rattle.base.specs.Outcomes.{code, answered, refused}
use Rattle.list.specs.DayLists.{day_list}
use Rattle.format.specs.Reading.{read_of}
use Rattle.format.specs.Examples.{entry501, clash_bytes, touching_bytes, serial501, opens_at}
use Rattle.shares.specs.Shares.{front_of}

-- bytes that are no list and no entry
abbrev pub no_list : List ℕ
no_list = 0xAA ∷ 0x00 ∷ 0xFF ∷ []

pub record FrontExamples : Type 0 where
  -- "bytes after the list are not tested", by 8 or by any other row
  pub read : front_of (touching_bytes ++ no_list)
      ≡ answered (day_list (record { h = 10; opening = 0 }) (serial501 0 4 ∷ serial501 4 10 ∷ []))
  pub tested_elsewhere : read_of (touching_bytes ++ no_list) ≡ refused (code 8 (21 ∷ []))
  pub none_follow : front_of touching_bytes ≡ read_of touching_bytes
  -- 14 is tested, and carries its place from the first byte on
  pub clash : front_of (clash_bytes ++ no_list) ≡ refused (code 14 (10 ∷ []))
  -- where a list is cut short, the bytes after it are read as its entries
  pub cut_off : front_of ((0x0A ∷ 0x00 ∷ 0x02 ∷ []) ++ (entry501 ++ no_list)) ≡ refused (code 4 (10 ∷ []))
  pub missing : front_of ((0x0A ∷ 0x00 ∷ 0x02 ∷ []) ++ entry501) ≡ refused (code 1 (10 ∷ []))
  -- the rows of the header
  pub no_minutes : front_of (0x00 ∷ 0x00 ∷ 0x00 ∷ no_list) ≡ refused (code 2 (0 ∷ []))
  pub too_many : front_of (0x0A ∷ 0x00 ∷ 0x41 ∷ no_list) ≡ refused (code 3 (2 ∷ []))
  pub opens_late : front_of (opens_at 10 0 ++ no_list) ≡ refused (code 15 (3 ∷ []))
  pub empty_list_lem : front_of (0x0A ∷ 0x00 ∷ 0x00 ∷ no_list) ≡ answered (day_list (record { h = 10; opening = 0 }) [])
