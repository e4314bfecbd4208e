-- What a new brick contains, and what a poke of its tables makes of the whole.
use Rattle.std.proofs.Common.{◌≡◌, ℕ, Bool, true, false, cond, refl, sym, ap, ◌∙◌}
use Rattle.std.specs.Prelude.{Option, Some, None, Result, Ok, Err, List, [], not}
use Rattle.std.specs.Option.{option_map}
use Rattle.std.specs.FinMap.{insert, empty, retain_keys, get-empty, get-retain_keys, same_map}
use Rattle.dht_types.specs.Gfid.{Entry, root, same_gfid}
use Rattle.dht_types.specs.declared.saved.SavedDir.{SavedDir}
use Rattle.dht_types.specs.declared.stored.Slot.{Slot}
use Rattle.dht_brick.specs.Bricks.{PokesTo}
use Rattle.dht_brick.specs.Contents.{Contents, Store, Tables, Dirs, Slots, Files, Opens, Locks, entry_cmp, store_of, no_opens, no_locks, newborn}
use Rattle.dht_brick.specs.Rows.{with_store}
use Rattle.dht_brick.specs.Saving.{dir_restored}
use Rattle.dht_brick.specs.declared.pokes.PokeFault.{PokeFault}
use Rattle.dht_brick.specs.declared.pokes.PokeFault.TheVariants.{Slot as AtSlot, Failed, OutOfMemory}
use Rattle.dht_brick.proofs.TableLemmas.{entry_total, entry_exact}

none_kept : (b : Bool) → let none : Option Slot = None in cond b none none ≡ none
none_kept true = refl
none_kept false = refl

-- of no slots none are left
pub none_retained :
    (test : Entry → Bool) → retain_keys {X = Slot} {R = entry_cmp} empty test ≡ empty
none_retained test =
    let none : Slots = empty in
    same_map entry_total entry_exact (retain_keys none test) none (λ e.
    get-retain_keys none test e (λ x same. sym (ap test (entry_exact e x same)))
    ∙ (ap (λ o. cond (test e) o None) (get-empty entry_cmp e)
    ∙ (none_kept (test e) ∙ sym (get-empty entry_cmp e))))

-- a poke of what is stored is one of the whole
pub poked_whole :
    (c : Contents) (to : Option Store) (s : Store) (result : Result (Unit {0}) PokeFault)
    → PokesTo to c.store result s → PokesTo (option_map (with_store c) to) c result (with_store c s)
poked_whole c to s (Ok done) h = ap (option_map (with_store c)) h
poked_whole c to s (Err AtSlot) h = (ap (option_map (with_store c)) h.0, ap (with_store c) h.1)
poked_whole c to s (Err Failed) h = ap (with_store c) h
poked_whole c to s (Err OutOfMemory) h = ap (with_store c) h

-- the record of the root, with this attribute
abbrev pub root_saved : Option (List ℕ) → SavedDir
root_saved v = record { gfid = root; dir = record { place = None; depth = 0; value = v }; slots = [] }

-- where that record was put into empty tables, and nothing else is there, the brick is new
pub new_contents :
    (t : Tables) (f : Files) (o : Opens) (l : Locks) (names : List (List ℕ)) (v w : Option (List ℕ))
    → t
    ≡ dir_restored root (Some (root_saved v))
    (record { dirs = empty; slots = empty; bricks = names })
    → f ≡ empty → o ≡ no_opens → l ≡ no_locks → v ≡ w
    → let c : Contents = record { store = store_of t f; opens = o; locks = l } in c ≡ newborn w
new_contents t f o l names v w e no_files no_open unlocked same =
    let none : Dirs = empty in
    let dirs : t.dirs ≡ insert none root (root_saved w).dir = ap (λ (x : Tables). x.dirs) e ∙ ap (λ y. insert none root (root_saved y).dir) same in
    let slots : t.slots ≡ empty = ap (λ (x : Tables). x.slots) e ∙ none_retained (λ n. not (same_gfid root n.0)) in
    λ i. record { store = record { dirs = dirs i; slots = slots i; files = no_files i }; opens = no_open i; locks = unlocked i }
