-- The links of a file on a brick, and the slots in a directory.
use Rattle.std.specs.Prelude.{ℕ, ◌+◌, Bool, ◌&&◌, count_by}
use Rattle.std.specs.List.{list_any}
use Rattle.std.specs.FinMap.{entries, values}
use Rattle.dht_types.specs.Gfid.{same_gfid}
use Rattle.dht_types.specs.declared.identifiers.Gfid.{Gfid}
use Rattle.dht_brick.specs.Contents.{Slots}
use Rattle.dht_brick.specs.Parts.{is_file, is_contested, is_standlink, is_visible}

-- the links of a file: the names that are the file's, and those that are readied for it
unfoldable pub links : Slots → Gfid → ℕ
links s f =
    count_by (λ p. is_file f p.main) (values s)
    + count_by (λ p. is_standlink f p.standby) (values s)

-- a name of the file is marked for a rename
unfoldable pub is_marked : Slots → Gfid → Bool
is_marked s f = list_any (λ p. is_contested f p.main) (values s)

-- a name in the directory is a directory's or a file's, or may become a file's
unfoldable pub is_occupied : Slots → Gfid → Bool
is_occupied s g = list_any (λ e. same_gfid g e.0.0 && is_visible e.1) (entries s)
