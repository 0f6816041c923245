-- Small files as they were read in a second.
use Rattle.std.specs.Prelude.{◌≡◌, ◌≢◌, ◌≤◌, ℕ, List, length, Option, None, Some}
use Rattle.std.specs.List.{Contains}
use Rattle.hpack.specs.declared.types.field.Field.{Field}
use Rattle.h2_message.specs.declared.message.Message.{Message}
use Rattle.h2_files.specs.Dates.{IsLastModified}
use Rattle.h2_files.specs.Tags.{validators}
use Rattle.h2_files.specs.declared.conditions.Answer.TheVariants as answers
use Rattle.h2_folder.specs.Answering.{is_weak_at, kind_of_names, most_at_once}
use Rattle.h2_folder.specs.Heads.{file_head}
use Rattle.h2_folder.specs.Times.{IsDateOf, stated_second}

-- a small file: the names of its path, the second in which it was read, the one in which it was
-- modified, and its octets
pub record KeptFile : Type 0 where
  pub names : List (List ℕ)
  pub second : ℕ
  pub modified : ℕ
  pub octets : List ℕ

-- A file is among those that are kept, has these names, and was read in this second.
-- rule: files (own) What a small file had in a second is answered in that second alone
pub record IsKeptFile (places : List (Option KeptFile)) (names : List (List ℕ)) (second : ℕ)
    (file : KeptFile) : Type 0 where
  pub there : Contains places (Some file)
  pub same_names : file.names ≡ names
  pub same_second : file.second ≡ second

-- The head of the answer to a GET without conditions, at a second, of a file with these names, of
-- this size, and modified in a second.
-- rule: files (own) What a small file had in a second is answered in that second alone
abbrev pub IsPlainHead : (names : List (List ℕ)) → (second modified size : ℕ) → (head : List Field)
    → Type 0
IsPlainHead names second modified size head =
    (date : Option (List ℕ)) × (stated : Option (List ℕ))
    × IsDateOf second date × IsLastModified (stated_second modified second) stated
    × (head ≡ file_head answers.Whole (validators size modified (is_weak_at modified second))
    (kind_of_names names) date stated)

-- The answer to a GET without conditions, at a second, of a small file with these names, which was
-- modified in a second: that head, and all its octets, of which it has some.
-- rule: files (own) What a small file had in a second is answered in that second alone
pub record IsPlainAnswer (names : List (List ℕ)) (second modified : ℕ) (message : Message)
    : Type 0 where
  pub head : IsPlainHead names second modified (length message.body.items) message.head.items
  pub some : length message.body.items ≢ 0
  pub few : length message.body.items ≤ most_at_once
  pub alone : message.trailers ≡ None
