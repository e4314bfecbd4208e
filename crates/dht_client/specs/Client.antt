-- Where a client is: where its running call is.
use Rattle.std.specs.Prelude.{ℕ, ◌+◌, ◌*◌, ◌≡◌, ◌⊎◌, Bool, true, false, is_some, nat_lt, ◌==◌, if◌then◌else◌, Option, Some, None, MatchOption, List, [], ◌∷◌, length}
use Rattle.dht_types.specs.Calls.{directory_of, name_of}
use Rattle.dht_types.specs.Cost.{heal_cost}
use Rattle.dht_types.specs.Gfid.{root, anchor, home, same_gfid}
use Rattle.dht_types.specs.declared.errors.Errno.{Errno}
use Rattle.dht_types.specs.declared.identifiers.Gfid.{Gfid}
use Rattle.dht_types.specs.declared.identifiers.CallNo.{CallNo}
use Rattle.dht_types.specs.declared.identifiers.ClientNo.{ClientNo}
use Rattle.dht_types.specs.declared.calls.Call.{Call}
use Rattle.dht_types.specs.declared.calls.Call.TheVariants.{Lookup, Create, Mkdir, Unlink, Rmdir, Heal}
use Rattle.dht_types.specs.declared.locks.Key.TheVariants.{Dir}
use Rattle.dht_types.specs.declared.locks.Mode.TheVariants.{Shared, Exclusive}
use Rattle.dht_brick.specs.declared.requests.NameRequest.TheVariants.{Look, Dirinfo}
use Rattle.dht_brick.specs.declared.requests.Request.{Request}
use Rattle.dht_brick.specs.declared.requests.Request.TheVariants.{Lock, OnNames}
use Rattle.dht_brick.specs.declared.replies.Reply.{Reply}
use Rattle.dht_xattr.specs.declared.range.Range.{Range}
use Rattle.dht_section.specs.Claims.{Claim, no_claim, claims_locks}
use Rattle.dht_section.specs.Shapes.{either}
use Rattle.dht_section.specs.Stages.{Stage}
use Rattle.dht_section.specs.declared.machine.Ask.{Ask}
use Rattle.dht_section.specs.declared.machine.Finish.{Finish}
use Rattle.dht_section.specs.Location.{located}
use Rattle.dht_resolve.specs.Cache.{CachedLayout, cached, layout_at}
use Rattle.dht_resolve.specs.Lookup.{first_lookup, holder_in}
use Rattle.dht_section.specs.declared.origin.Origin.{Origin}
use Rattle.dht_heal.specs.Heal.{first_room}
use Rattle.dht_heal.specs.HealCall.{first_call}
use Rattle.dht_fileops.specs.Create.{first_create}
use Rattle.dht_fileops.specs.Unlink.{first_unlink}
use Rattle.dht_dirops.specs.Mkdir.{first_mkdir}
use Rattle.dht_dirops.specs.Rmdir.{first_rmdir}
use Rattle.dht_client.specs.Program.{is_lookup, on_way, program_fault, program_layout, program_taught}
use Rattle.dht_client.specs.declared.program.Program.{Program}
use Rattle.dht_client.specs.declared.program.Program.TheVariants.{LookingUp, Creating, Making, Unlinking, Removing, Healing}
use Rattle.dht_client.specs.declared.calling.Client.{Client}
use Rattle.dht_client.specs.declared.calling.Running.{Running}
use Rattle.dht_client.specs.declared.calling.Subject.{Subject}

abbrev pub client_number : Client → ClientNo
client_number c = c.number

-- the layouts that it knows, with their directories; and that of a directory, if it knows it
abbrev pub client_cache : Client → List CachedLayout
client_cache c = c.cache

abbrev pub client_layout : Client → Gfid → Option (List (Option Range))
client_layout c g = layout_at c.cache g

-- there is none
abbrev pub knows_none : List CachedLayout → Bool
knows_none [] = true
knows_none (x ∷ xs) = false

-- it knows no layout
abbrev pub client_is_new : Client → Bool
client_is_new c = knows_none c.cache

abbrev pub client_is_busy : Client → Bool
client_is_busy c = is_some c.pending

-- an idle client asks for nothing, so what stands there for it does not matter
abbrev pub running_stage : Option Running → Stage
running_stage None = record {
  asks = record { brick = record { 0 = 0 }; request = OnNames (Dirinfo root) };
  claims = no_claim;
  variant = 0;
  knows = λ s. Unit {0};
}
running_stage (Some x) = on_way x.program

abbrev pub client_stage : Client → Stage
client_stage c = running_stage c.pending

abbrev pub running_looks_up : Option Running → Bool
running_looks_up None = false
running_looks_up (Some x) = is_lookup x.program

-- its call is a lookup
abbrev pub client_looks_up : Client → Bool
client_looks_up c = running_looks_up c.pending

-- a call is a lookup
abbrev pub is_lookup_call : Call Gfid → Bool
is_lookup_call (Lookup d n) = true
is_lookup_call call = false

abbrev pub running_fault : Option Running → Option Errno
running_fault None = None
running_fault (Some x) = program_fault x.program

-- the error of a brick that ended its call
abbrev pub client_fault : Client → Option Errno
client_fault c = running_fault c.pending

abbrev pub running_learned : Option Running → Option (List (Option Range))
running_learned None = None
running_learned (Some x) = program_layout x.program

-- the layout that its call has learned
abbrev pub client_learned : Client → Option (List (Option Range))
client_learned c = running_learned c.pending

abbrev pub running_taught : Option Running → Reply → Option (List (Option Range))
running_taught None r = None
running_taught (Some x) r = program_taught x.program r

-- and that a reply teaches the call: by this reply every brick has shown its range
abbrev pub client_taught : Client → Reply → Option (List (Option Range))
client_taught c r = running_taught c.pending r

-- the directory of its call
abbrev pub running_directory : Option Running → Option Gfid
running_directory None = None
running_directory (Some x) = Some x.directory

abbrev pub client_directory : Client → Option Gfid
client_directory c = running_directory c.pending

-- memory for a directory that was not in the cache was refused: the cache is as it was
pub record WasRefused (g : Gfid) (old new : List CachedLayout) : Type 0 where
  pub absent : layout_at old g ≡ None
  pub stays : new ≡ old

-- a layout that a call in this directory has learned is put in the cache, unless memory is refused
abbrev pub IsLearned : Gfid → Option (List (Option Range)) → (old new : List CachedLayout)
    → Type 0
IsLearned g None old new = new ≡ old
IsLearned g (Some layout) old new = (new ≡ cached old g layout) ⊎ WasRefused g old new

-- what a client remembers after a call in this directory, if there was one
abbrev pub Remembers : Option Gfid → Option (List (Option Range)) → (old new : List CachedLayout)
    → Type 0
Remembers None learned old new = new ≡ old
Remembers (Some g) learned old new = IsLearned g learned old new

-- a call learns the layout that a reply teaches, and its client remembers it from its end on
pub record CallLearns (old : Client) (r : Reply) (answer : Option Finish) (new : Client)
    : Type 0 where
  pub learns : MatchOption answer
      (client_learned new ≡ either (client_taught old r) (client_learned old)) (λ f. Unit {0})
  pub directory : MatchOption answer (client_directory new ≡ client_directory old) (λ f. Unit {0})
  pub knows : MatchOption answer (client_cache new ≡ client_cache old)
      (λ f. Remembers (client_directory old) (client_learned old) (client_cache old)
      (client_cache new))

-- what a call is about, over so many bricks
abbrev pub subject_of : ℕ → Call Gfid → Subject
subject_of bricks what =
    record { directory = directory_of what; name = name_of what; bricks = bricks }

-- what a call makes is known by the run, the client and the call
abbrev pub origin_of : Client → ℕ → CallNo → Origin
origin_of c run k = record { run = run; client = c.number; call = k }

-- the program of a call at its beginning, over bricks of these weights
abbrev pub first_program : Client → List ℕ → ℕ → CallNo → Call Gfid → Program
first_program c ws run k (Lookup d n) =
    LookingUp (first_lookup (located (length ws) d n) (client_layout c d))
first_program c ws run k (Create d n) =
    Creating (first_create (length ws) d n (origin_of c run k) (first_room ws))
first_program c ws run k (Mkdir d n) =
    Making (first_mkdir (length ws) d n (origin_of c run k) (first_room ws))
first_program c ws run k (Unlink d n) = Unlinking (first_unlink (length ws) d n)
first_program c ws run k (Rmdir d n) =
    Removing (first_rmdir (length ws) d n (client_layout c d))
first_program c ws run k (Heal d) = Healing (first_call ws (length ws) d)

-- the first request of a part under locks
abbrev pub first_lock : Gfid → List ℕ → Ask
first_lock d ws = record {
  brick = record { 0 = if length ws == 0 then 0 else anchor d (length ws) };
  request = Lock (Dir d) Shared;
}

-- the first request of a lookup that knows the layout: it looks at the holder, if a brick is one
abbrev pub first_look : Gfid → List ℕ → List ℕ → Option ℕ → Ask
first_look d n ws None = first_lock d ws
first_look d n ws (Some b) =
    if nat_lt b (length ws)
    then record { brick = record { 0 = b }; request = OnNames (Look d n) }
    else first_lock d ws

-- the first request of a call that looks a name up, by a client that knows this layout or none
abbrev pub first_sought : Option (List (Option Range)) → List ℕ → Gfid → List ℕ → Ask
first_sought (Some ranges) ws d n = first_look d n ws (holder_in ranges n)
first_sought None ws d n = record { brick = record { 0 = 0 }; request = OnNames (Dirinfo d) }

-- the first request of a heal: the directory's home is asked where it stands, or the root, which
-- stands nowhere, is locked
abbrev pub first_heal_ask : Gfid → List ℕ → Ask
first_heal_ask d ws =
    if same_gfid d root
    then record {
      brick = record { 0 = if length ws == 0 then 0 else anchor d (length ws) };
      request = Lock (Dir d) Exclusive;
    }
    else record { brick = record { 0 = home d }; request = OnNames (Dirinfo d) }

-- the first request of a call, by a client that knows this layout of its directory or none
abbrev pub first_ask : Option (List (Option Range)) → List ℕ → Call Gfid → Ask
first_ask known ws (Lookup d n) = first_sought known ws d n
first_ask known ws (Create d n) = first_lock d ws
first_ask known ws (Mkdir d n) = first_lock d ws
first_ask known ws (Unlink d n) = first_lock d ws
first_ask known ws (Rmdir d n) = first_sought known ws d n
first_ask known ws (Heal d) = first_heal_ask d ws

-- what a call claims whose first request is this: the lock, if it asks for one
abbrev pub claimed_by : (brick : ℕ) → Request → Claim
claimed_by b (Lock key mode) = claims_locks (record { brick = b; key = key } ∷ [])
claimed_by b q = no_claim

abbrev pub first_claim : Ask → Claim
first_claim a = claimed_by a.brick.0 a.request

-- how many requests a lookup of a name sends at most, over so
-- many bricks, by a client that knows the layout or does not
abbrev pub most_sought : Bool → ℕ → ℕ
most_sought true n = n + 7
most_sought false n = 2 * n + 7

-- and a call; a create and a mkdir may heal their directory
abbrev pub most_steps : Bool → ℕ → Call Gfid → ℕ
most_steps known n (Lookup d m) = most_sought known n
most_steps known n (Create d m) = 3 * n + 10 + heal_cost n
most_steps known n (Mkdir d m) = 4 * n + 14 + heal_cost n
most_steps known n (Unlink d m) = 2 * n + 7
most_steps known n (Rmdir d m) = most_sought known n + (3 * n + 8)
most_steps known n (Heal d) = 195 * n + 194
