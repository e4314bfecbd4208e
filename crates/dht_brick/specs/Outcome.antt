-- What a request comes to.
use Rattle.std.specs.Prelude.{◌≡◌, Bool, if◌then◌else◌, Option, Some, None}
use Rattle.dht_types.specs.declared.identifiers.ClientNo.{ClientNo}
use Rattle.dht_types.specs.declared.stored.DirRecord.{DirRecord}
use Rattle.dht_brick.specs.declared.replies.Given.{Given}
use Rattle.dht_brick.specs.declared.replies.Why.{Why}
use Rattle.dht_brick.specs.declared.replies.Why.TheVariants.{Nodir}
use Rattle.dht_brick.specs.declared.replies.Reply.{Reply}
use Rattle.dht_brick.specs.declared.replies.Reply.TheVariants as reply

-- it is carried out, which gives this and leaves this; or it is refused; or it waits for a client
pub data Outcome (A : Type 0) : Type 0 where
  Do : Given → A → Outcome A
  Refuse : Why → Outcome A
  Await : ClientNo → Outcome A

abbrev pub reply_in : {A : Type 0} → Outcome A → Reply
reply_in (Do given new) = reply.Ok given
reply_in (Refuse why) = reply.Refused why
reply_in (Await holder) = reply.Wait holder

-- what is there afterwards
abbrev pub left_by : {A : Type 0} → Outcome A → A → A
left_by (Do given new) old = new
left_by (Refuse why) old = old
left_by (Await holder) old = old

-- the outcome for the whole, from that for a part
abbrev pub within : {A B : Type 0} → (A → B) → Outcome A → Outcome B
within whole (Do given new) = Do given (whole new)
within whole (Refuse why) = Refuse why
within whole (Await holder) = Await holder

-- each request that names a directory is refused where the brick has no record of it
abbrev pub in_dir : {A : Type 0} → Option DirRecord → (DirRecord → Outcome A) → Outcome A
in_dir None outcome = Refuse Nodir
in_dir (Some r) outcome = outcome r

abbrev pub unless : {A : Type 0} → Bool → Why → Outcome A → Outcome A
unless test why outcome = if test then Refuse why else outcome

-- the reply is of this outcome, and the old became the new; or memory ran out, and nothing was done
abbrev pub Serves : {A : Type 0} → Outcome A → A → Reply → A → Type 0
Serves outcome old (reply.Ok given) new = outcome ≡ Do given new
Serves outcome old (reply.Refused why) new = (outcome ≡ Refuse why) × (new ≡ old)
Serves outcome old (reply.Wait holder) new = (outcome ≡ Await holder) × (new ≡ old)
Serves outcome old reply.NoMemory new = new ≡ old
Serves outcome old reply.Down new = ⊥
Serves outcome old reply.Failed new = ⊥
