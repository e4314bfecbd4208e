-- The rows of registrations and seals.
use Rattle.std.specs.Prelude.{ℕ, Bool, ◌==◌, if◌then◌else◌, count_by}
use Rattle.std.specs.FinMap.{contains_key, insert, remove, keys}
use Rattle.dht_types.specs.Gfid.{same_gfid}
use Rattle.dht_types.specs.declared.identifiers.Gfid.{Gfid}
use Rattle.dht_types.specs.declared.identifiers.ClientNo.{ClientNo}
use Rattle.dht_types.specs.declared.identifiers.CallNo.{CallNo}
use Rattle.dht_brick.specs.Contents.{Opens}
use Rattle.dht_brick.specs.Outcome.{Outcome, Do, Refuse, unless}
use Rattle.dht_brick.specs.declared.opens.Registration.{Registration}
use Rattle.dht_brick.specs.declared.replies.Given.TheVariants as given
use Rattle.dht_brick.specs.declared.replies.Why.TheVariants as why

-- how many registrations a file has
unfoldable pub registrations : Opens → Gfid → ℕ
registrations o f = count_by (λ r. same_gfid f r.file) (keys o.registered)

abbrev pub is_sealed : Opens → Gfid → Bool
is_sealed o f = contains_key o.sealed f

abbrev pub registered : Opens → Registration → Opens
registered o r = record o { registered = insert o.registered r tt }

abbrev pub unregistered : Opens → Registration → Opens
unregistered o r = record o { registered = remove o.registered r }

abbrev pub sealed : Opens → Gfid → Opens
sealed o f = record o { sealed = insert o.sealed f tt }

abbrev pub registration : Gfid → ClientNo → CallNo → Registration
registration f client call = record { file = f; client = client; call = call }

abbrev pub register_row : ClientNo → CallNo → Gfid → Opens → Outcome Opens
register_row client call f o =
    unless (is_sealed o f) why.Sealed (Do given.Nothing (registered o (registration f client call)))

abbrev pub left_open : Gfid → Opens → Outcome Opens
left_open f o = Do (given.Registrations (registrations o f)) o

abbrev pub unregister_row : ClientNo → Gfid → CallNo → Opens → Outcome Opens
unregister_row client f call o = left_open f (unregistered o (registration f client call))

abbrev pub seal_row : Gfid → Opens → Outcome Opens
seal_row f o =
    if registrations o f == 0
    then Do given.Nothing (sealed o f)
    else Refuse (why.Open (registrations o f))
