-- What happens to a brick that is no request, and what can be asked of it beside them.
use Rattle.std.specs.Prelude.{ℕ, ◌+◌, ◌/◌, ◌&&◌, not, nat_eq, if◌then◌else◌, is_some, Option, Some, None, List, length, sum_by}
use Rattle.std.specs.Option.{option_map}
use Rattle.std.specs.FinMap.{get, len, values, retain_keys}
use Rattle.dht_types.specs.declared.identifiers.Gfid.{Gfid}
use Rattle.dht_types.specs.declared.stored.Main.TheVariants.{Linkto as ToBrick}
use Rattle.dht_types.specs.declared.stored.Record.{Record}
use Rattle.dht_brick.specs.Contents.{Contents, Store, Dirs, Files, Opens, Locks, dir, slot, no_opens, no_locks}
use Rattle.dht_brick.specs.Parts.{is_vacant, is_forward, with_main, with_dir, with_slot}
use Rattle.dht_brick.specs.Looks.{bytes_of}
use Rattle.dht_brick.specs.declared.census.Census.{Census}
use Rattle.dht_brick.specs.declared.pokes.PokeAt.{PokeAt}
use Rattle.dht_brick.specs.declared.pokes.PokeAt.TheVariants.{Layout, Linkto}

-- without the registrations of a client, and without its locks
abbrev pub opens_without : ℕ → Opens → Opens
opens_without client o = record o {
  registered = retain_keys o.registered (λ r. not (nat_eq client r.client.0));
}

abbrev pub locks_without : ℕ → Locks → Locks
locks_without client locks key other = if nat_eq client other then None else locks key other

-- a client has died
abbrev pub freed : ℕ → Contents → Contents
freed client c = record {
  store = c.store;
  opens = opens_without client c.opens;
  locks = locks_without client c.locks;
}

-- without the pointers to where files went
abbrev pub forgotten : Files → Files
forgotten files = retain_keys files (λ f. not (is_forward (get files f)))

-- all clients are new: locks, registrations, seals and pointers are gone
abbrev pub remounted : Contents → Contents
remounted c = record {
  store = record c.store { files = forgotten c.store.files };
  opens = no_opens;
  locks = no_locks;
}

-- what a poke makes of a store, where there is the directory, and no directory or file at the name
abbrev pub poked : PokeAt → List ℕ → Store → Option Store
poked (Layout d) value s =
    option_map (λ r. with_dir s d (record r { value = Some value })) (dir s d)
poked (Linkto d n) value s =
    if is_some (dir s d) && is_vacant (slot s (d, n)).main
    then Some (with_slot s (d, n) (with_main (slot s (d, n)) (ToBrick value)))
    else None

-- the attribute of a directory, if there is a record, and if the record has one
abbrev pub value_of : Dirs → Gfid → Option (Option (List ℕ))
value_of dirs d = option_map (λ r. r.value) (get dirs d)

-- chunks of 65,536 bytes, rounded up
abbrev pub chunks_of : Record → ℕ
chunks_of r = (length (bytes_of r) + 65535) / 65536

abbrev pub census_of : Store → Census
census_of s = record {
  dirs = len s.dirs;
  slots = len s.slots;
  files = len s.files;
  chunks = sum_by chunks_of (values s.files);
}
