-- Laws of all rows: by what they come to, and never by request.
use Rattle.std.proofs.Common.{◌≡◌, ◌≢◌, refl, sym, ap, ◌∙◌}
use Rattle.dht_types.specs.declared.identifiers.ClientNo.{ClientNo}
use Rattle.dht_brick.specs.Bricks.{ServesOrFails}
use Rattle.dht_brick.specs.Contents.{Contents}
use Rattle.dht_brick.specs.Laws.{RefusalsChangeNothing, WaitsChangeNothing, ServedByRow, RowServes, NamesServe, FilesServe, RegisterServes, UnregisterServes, SealServes, LockServes, UnlockServes}
use Rattle.dht_brick.specs.Outcome.{Outcome, Do, Refuse, Await, Serves, within, reply_in, left_by}
use Rattle.dht_brick.specs.Rows.{row, with_store, with_opens, with_locks}
use Rattle.dht_brick.specs.declared.replies.Reply.{Reply}
use Rattle.dht_brick.specs.declared.replies.Reply.TheVariants as reply
use Rattle.dht_brick.specs.declared.replies.Why.{Why}

refused :
    {A : Type 0} (outcome : Outcome A) (old : A) (why : Why) → reply_in outcome ≡ reply.Refused why
    → left_by outcome old ≡ old
refused (Do given new) old why e = cc
refused (Refuse w) old why e = refl
refused (Await holder) old why e = refl

waited :
    {A : Type 0} (outcome : Outcome A) (old : A) (holder : ClientNo)
    → reply_in outcome ≡ reply.Wait holder → left_by outcome old ≡ old
waited (Do given new) old holder e = cc
waited (Refuse why) old holder e = refl
waited (Await h) old holder e = refl

pub refusals_change_nothing : RefusalsChangeNothing
refusals_change_nothing bricks client call q c why e = refused (row bricks client call q c) c why e

pub waits_change_nothing : WaitsChangeNothing
waits_change_nothing bricks client call q c holder e = waited (row bricks client call q c) c holder e

replied :
    {A : Type 0} (outcome : Outcome A) (old : A) (r : Reply) (new : A) → Serves outcome old r new
    → r ≢ reply.NoMemory → (r ≡ reply_in outcome) × (new ≡ left_by outcome old)
replied outcome old (reply.Ok given) new s memory = (sym (ap reply_in s), sym (ap (λ o. left_by o old) s))
replied outcome old (reply.Refused why) new s memory = (sym (ap reply_in s.0), s.1 ∙ sym (ap (λ o. left_by o old) s.0))
replied outcome old (reply.Wait holder) new s memory = (sym (ap reply_in s.0), s.1 ∙ sym (ap (λ o. left_by o old) s.0))
replied outcome old reply.Down new s memory = absurd s
replied outcome old reply.Failed new s memory = absurd s
replied outcome old reply.NoMemory new s memory = absurd (memory refl)

pub served_by_row : ServedByRow
served_by_row bricks client call q old r new s memory =
    let both = replied (row bricks client call q old) old r new s memory in
    record { replied = both.0; left = both.1 }

serves :
    {A : Type 0} (outcome : Outcome A) (old : A)
    → Serves outcome old (reply_in outcome) (left_by outcome old)
serves (Do given new) old = refl
serves (Refuse why) old = (refl, refl)
serves (Await holder) old = (refl, refl)

pub row_serves : RowServes
row_serves bricks client call q old = serves (row bricks client call q old) old

-- a part that serves a request is in the whole
whole_answers :
    {A : Type 0} (whole : A → Contents) (outcome : Outcome A) (old : A) (r : Reply) (new : A)
    → Serves outcome old r new → ServesOrFails (within whole outcome) (whole old) r (whole new)
whole_answers whole outcome old (reply.Ok given) new s = ap (within whole) s
whole_answers whole outcome old (reply.Refused why) new s = (ap (within whole) s.0, ap whole s.1)
whole_answers whole outcome old (reply.Wait holder) new s = (ap (within whole) s.0, ap whole s.1)
whole_answers whole outcome old reply.Down new s = absurd s
whole_answers whole outcome old reply.Failed new s = absurd s
whole_answers whole outcome old reply.NoMemory new s = ap whole s

pub names_serve : NamesServe
names_serve bricks client call q c r s serves = whole_answers (with_store c) _ c.store r s serves

pub files_serve : FilesServe
files_serve bricks client call q c r s serves = whole_answers (with_store c) _ c.store r s serves

pub register_serves : RegisterServes
register_serves bricks client call f c r o serves = whole_answers (with_opens c) _ c.opens r o serves

pub unregister_serves : UnregisterServes
unregister_serves bricks client call f opened c r o serves = whole_answers (with_opens c) _ c.opens r o serves

pub seal_serves : SealServes
seal_serves bricks client call f c r o serves = whole_answers (with_opens c) _ c.opens r o serves

pub lock_serves : LockServes
lock_serves bricks client call key mode c r l serves = whole_answers (with_locks c) _ c.locks r l serves

pub unlock_serves : UnlockServes
unlock_serves bricks client call key c r l serves = whole_answers (with_locks c) _ c.locks r l serves
