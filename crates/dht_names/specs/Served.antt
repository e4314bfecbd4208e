-- What a request about a name makes of the tables, beside these file records.
use Rattle.std.specs.Prelude.{◌≡◌, Bool, false, is_none}
use Rattle.std.specs.FinMap.{get}
use Rattle.dht_brick.specs.Contents.{Dirs, Tables, Files, Store, store_of}
use Rattle.dht_brick.specs.NameRows.{name_row, slot_change}
use Rattle.dht_brick.specs.Named.{name_named}
use Rattle.dht_brick.specs.Outcome.{Outcome, Serves}
use Rattle.dht_brick.specs.declared.replies.Reply.{Reply}
use Rattle.dht_brick.specs.declared.requests.NameRequest.{NameRequest}
use Rattle.dht_brick.specs.declared.requests.NameRequest.TheVariants.{Orphans}

-- the reply and what is left are of this outcome, and the bricks' names stay
pub record Meets (outcome : Store → Outcome Store) (t : Tables) (f : Files) (r : Reply)
    (t2 : Tables) (f2 : Files) : Type 0 where
  pub served : Serves (outcome (store_of t f)) (store_of t f) r (store_of t2 f2)
  pub bricks : t2.bricks ≡ t.bricks

-- where the directory is there: the slot is changed, or refused
abbrev pub Changes : NameRequest → Tables → Files → Reply → Tables → Files → Type 0
Changes q t = Meets (λ s. slot_change t.bricks q s (name_named q)) t

-- the same, whatever the file records are: they are neither read nor changed
abbrev pub ChangesAlone : NameRequest → Tables → Reply → Tables → Type 0
ChangesAlone q t r t2 = (f : Files) → Changes q t f r t2 f

-- the row of the request
abbrev pub MeetsRow : NameRequest → Tables → Files → Reply → Tables → Files → Type 0
MeetsRow q t = Meets (name_row t.bricks q) t

-- the request names a directory of which there is no record
abbrev pub lacks_dir : Dirs → NameRequest → Bool
lacks_dir dirs (Orphans after) = false
lacks_dir dirs q = is_none (get dirs (name_named q).0)
