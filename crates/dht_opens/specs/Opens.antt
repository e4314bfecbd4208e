-- Registrations and seals as finite sets, and what becomes of them.
use Rattle.std.specs.Prelude.{◌≡◌, ◌≢◌, true, false, List, map, Result, Ok, Err}
use Rattle.std.specs.FinMap.{FinMap, from_entries}
use Rattle.std.specs.declared.cmp.Ordering.{Ordering}
use Rattle.dht_types.specs.declared.identifiers.Gfid.{Gfid}
use Rattle.dht_brick.specs.Contents.{Opens}
use Rattle.dht_brick.specs.OpenRows.{registrations, is_sealed, registered, sealed}
use Rattle.dht_brick.specs.declared.opens.Registration.{Registration}
use Rattle.dht_opens.specs.declared.registrations.OpenFault.{OpenFault}
use Rattle.dht_opens.specs.declared.registrations.OpenFault.TheVariants as unopened
use Rattle.dht_opens.specs.declared.registrations.SealFault.{SealFault}
use Rattle.dht_opens.specs.declared.registrations.SealFault.TheVariants as unsealed
use Rattle.dht_opens.specs.declared.registrations.Opens.{Opens as Kept}

-- the set of these keys
abbrev pub set_of : {K : Type 0} {R : K → K → Ordering} → List K → FinMap R (Unit {0})
set_of ks = from_entries (map (λ k. (k, tt)) ks)

-- the registrations and seals that are kept
unfoldable pub opens_in : Kept → Opens
opens_in k = record { registered = set_of k.registered.keys; sealed = set_of k.sealed.keys }

-- a file was registered; or it is sealed; or it is not, and there was no memory
abbrev pub Registers : Registration → Opens → Result (Unit {0}) OpenFault → Opens → Type 0
Registers r old (Ok done) new = (is_sealed old r.file ≡ false) × (new ≡ registered old r)
Registers r old (Err unopened.Sealed) new = (is_sealed old r.file ≡ true) × (new ≡ old)
Registers r old (Err unopened.OutOfMemory) new = (is_sealed old r.file ≡ false) × (new ≡ old)

-- a file was sealed; or it has so many registrations; or it has none, and there was no memory
abbrev pub Seals : Gfid → Opens → Result (Unit {0}) SealFault → Opens → Type 0
Seals f old (Ok done) new = (registrations old f ≡ 0) × (new ≡ sealed old f)
Seals f old (Err (unsealed.Open n)) new = (registrations old f ≡ n) × (n ≢ 0) × (new ≡ old)
Seals f old (Err unsealed.OutOfMemory) new = (registrations old f ≡ 0) × (new ≡ old)
