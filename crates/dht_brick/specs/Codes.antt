-- Codes of what bricks contain, for models: by them a proof tells values apart.
use Rattle.std.specs.Prelude.{ℕ, List, refl}
use Rattle.std.specs.Coded.{Coded, code_by, coded_ℕ, coded_list, coded×}
use Rattle.std.specs.FinMap as map
use Rattle.std.specs.FinSet as set
use Rattle.dht_types.specs.contracts.identifiers.Gfid as gfid
use Rattle.dht_types.specs.contracts.stored.DirRecord as dir_record
use Rattle.dht_types.specs.contracts.stored.Record as record_of_file
use Rattle.dht_types.specs.contracts.stored.Slot as slot
use Rattle.dht_brick.specs.contracts.opens.Registration as registration
use Rattle.dht_brick.specs.Contents.{Dirs, Slots, Files, Tables, Opens}

abbrev pub dirs_code : Coded Dirs
dirs_code = map.code gfid.the_row.coded dir_record.the_row.coded

abbrev pub slots_code : Coded Slots
slots_code = map.code (coded× gfid.the_row.coded (coded_list coded_ℕ)) slot.the_row.coded

abbrev pub files_code : Coded Files
files_code = map.code gfid.the_row.coded record_of_file.the_row.coded

abbrev pub tables_code : Coded Tables
tables_code =
    code_by (Dirs × (Slots × List (List ℕ)))
    (coded× dirs_code (coded× slots_code (coded_list (coded_list coded_ℕ))))
    (λ t. (t.dirs, (t.slots, t.bricks))) (λ p. record { dirs = p.0; slots = p.1.0; bricks = p.1.1 })
    (λ _. refl)

abbrev pub opens_code : Coded Opens
opens_code =
    code_by (_ × _) (coded× (set.code registration.the_row.coded) (set.code gfid.the_row.coded))
    (λ o. (o.registered, o.sealed)) (λ p. record { registered = p.0; sealed = p.1 }) (λ _. refl)
