-- The steps of a reap.
use Rattle.std.proofs.Common.{◌≡◌, ◌∙◌, ℕ, Bool, true, false, refl, sym, ap, arith, List}
use Rattle.std.specs.Prelude.{Option, Some, None, is_some, length, ◌==◌, if◌then◌else◌}
use Rattle.dht_types.specs.Gfid.{anchor}
use Rattle.dht_types.specs.History.{is_carried}
use Rattle.dht_types.specs.declared.calls.TreeStep.{TreeStep}
use Rattle.dht_types.specs.declared.errors.Errno.{Errno}
use Rattle.dht_types.specs.declared.identifiers.Gfid.{Gfid}
use Rattle.dht_brick.proofs.MapLemmas.{get-insert_here}
use Rattle.dht_brick.proofs.TableLemmas.{gfid_total}
use Rattle.dht_brick.specs.Contents.{Contents, Opens, Store, slot}
use Rattle.dht_brick.specs.Kinds.{reply_kind}
use Rattle.dht_brick.specs.OpenRows.{is_sealed, registrations, seal_row, sealed}
use Rattle.dht_brick.specs.Outcome.{Do, Refuse, within, reply_in, left_by}
use Rattle.dht_brick.specs.Parts.{is_copy}
use Rattle.dht_brick.specs.Rows.{with_opens}
use Rattle.dht_brick.specs.declared.replies.Given.TheVariants as given
use Rattle.dht_brick.specs.declared.replies.Reply.{Reply}
use Rattle.dht_brick.specs.declared.replies.Reply.TheVariants.{Ok as Carried, Refused as Declined, Wait}
use Rattle.dht_brick.specs.declared.replies.Why.TheVariants as why
use Rattle.dht_brick.specs.declared.requests.Request.TheVariants.{Seal}
use Rattle.dht_section.proofs.ClaimLaws.{claims_more}
use Rattle.dht_section.proofs.SceneLaws.{brick_keeps, carried_sound, fault_earned, new_is, row_moved, row_reply, within_keeps}
use Rattle.dht_section.proofs.SectionLocks.{again}
use Rattle.dht_section.specs.Again.{is_sealing, is_decided, IsUnanswered}
use Rattle.dht_section.specs.Claims.{Lock}
use Rattle.dht_section.specs.Moves.{Guarantee, step_of, tree_by}
use Rattle.dht_section.specs.Parts.{EndsByFault}
use Rattle.dht_section.specs.Reap.{IsOrphan, IsShut, drop_answered, reap_after, reap_answered, reap_brick, reap_ending, reap_stage, reap_unless, seal_answered}
use Rattle.dht_section.specs.ReapLaws.{reap_brick_is, reap_stable}
use Rattle.dht_section.specs.Rely.{IsNameless, BySeal}
use Rattle.dht_section.specs.Replies.{fault_of}
use Rattle.dht_section.specs.Scene.{Scene}
use Rattle.dht_section.specs.Stages.{Served, GoesOn, EndsIn, Moves, MatchTurn}
use Rattle.dht_section.specs.Views.{links_to, view_of}
use Rattle.dht_section.specs.declared.machine.Ask.{Ask}
use Rattle.dht_section.specs.declared.machine.Turn.{Turn}
use Rattle.dht_section.specs.declared.machine.Turn.TheVariants.{Go}
use Rattle.dht_section.specs.declared.reap.Orphan.{Orphan}
use Rattle.dht_section.specs.declared.reap.Reap.{Reap}
use Rattle.dht_section.specs.declared.reap.Reap.TheVariants.{Sealing, Dropping}

-- ---- what a seal leaves

abbrev asks_seal : Orphan → Ask
asks_seal x = record { brick = record { 0 = reap_brick x }; request = Seal x.file }

seal_keeps_store :
    (x : Orphan) (s t : Scene) (r : Reply) → Guarantee s (asks_seal x) r t → (i : ℕ)
    → (t.disk.brick i).store ≡ (s.disk.brick i).store
seal_keeps_store x s t r m i =
    let c : Contents = s.disk.brick (reap_brick x) in
    brick_keeps (λ (c : Contents). c.store) s t (asks_seal x) r m (within_keeps (λ (c : Contents). c.store) (with_opens c) (seal_row x.file c.opens) c (λ a. refl)) i

no_step : (b : ℕ) (f : Gfid) (r : Reply) → step_of b (Seal f) r ≡ None
no_step b f (Carried given) = refl
no_step b f r = refl

seal_keeps_tree :
    (x : Orphan) (s t : Scene) (r : Reply) → Guarantee s (asks_seal x) r t
    → t.history.tree ≡ s.history.tree
seal_keeps_tree x s t r m = m.tree ∙ ap (λ (o : Option TreeStep). tree_by o s.history.tree) (no_step (reap_brick x) x.file m.real)

-- a seal that was carried out seals the file
has_inserted : (o : Opens) (f : Gfid) → is_sealed (sealed o f) f ≡ true
has_inserted o f = ap is_some (get-insert_here gfid_total o.sealed f tt)

sealed_by :
    (v : Bool) (c : Contents) (f : Gfid) (n : ℕ) (r : Reply)
    → r
    ≡ reply_in
    (within (with_opens c)
    (if v then Do given.Nothing (sealed c.opens f) else Refuse (why.Open n)))
    → is_carried (reply_kind r) ≡ true
    → is_sealed
    (left_by
    (within (with_opens c)
    (if v then Do given.Nothing (sealed c.opens f) else Refuse (why.Open n)))
    c).opens
    f
    ≡ true
sealed_by true c f n r e k = has_inserted c.opens f
sealed_by false c f n r e k = absurd (let z : false ≡ true = sym (ap (λ y. is_carried (reply_kind y)) e) ∙ k in cc)

sealed_after :
    (x : Orphan) (s t : Scene) (r : Reply) → reap_brick x ≡ anchor x.file s.disk.count
    → is_carried (reply_kind r) ≡ true → Guarantee s (asks_seal x) r t
    → (view_of t.disk x.file).sealed ≡ true
sealed_after x s t r e k m =
    let c : Contents = s.disk.brick (reap_brick x) in
    let row = row_moved s t (asks_seal x) r m (carried_sound r k) in
    ap (λ (n : ℕ). is_sealed (t.disk.brick (anchor x.file n)).opens x.file) m.disk.count
    ∙ (ap (λ (i : ℕ). is_sealed (t.disk.brick i).opens x.file) (sym e)
    ∙ (ap (λ (c : Contents). is_sealed c.opens x.file) (new_is s t (asks_seal x) r m ∙ row.1)
    ∙ sealed_by (registrations c.opens x.file == 0) c x.file (registrations c.opens x.file) r row.0 k))

-- the file has no name still
nameless_after :
    (x : Orphan) (s t : Scene) (r : Reply) → IsOrphan x s → (view_of t.disk x.file).sealed ≡ true
    → Guarantee s (asks_seal x) r t → IsNameless t.disk t.history.tree x.file
nameless_after x s t r h q m =
    let count = m.disk.count in
    record {
      used = BySeal q;
      links = λ i e l. ap (λ (c : Store). links_to x.file (slot c e)) (seal_keeps_store x s t r m i) ∙ h.nameless.links i e (omega arith);
      copies = λ i e l. ap (λ (c : Store). is_copy x.file (slot c e).standby) (seal_keeps_store x s t r m i) ∙ h.nameless.copies i e (omega arith);
    }

shut_after :
    (x : Orphan) (s t : Scene) (r : Reply) → reap_brick x ≡ anchor x.file s.disk.count
    → is_carried (reply_kind r) ≡ true → IsOrphan x s → Guarantee s (asks_seal x) r t → IsShut x t
shut_after x s t r e k h m =
    let q = sealed_after x s t r e k m in
    let l = h.there in
    let count = m.disk.count in
    record {
      orphan = record { bricks = ap length m.weights ∙ h.bricks; there = omega arith; nameless = nameless_after x s t r h q m };
      sealed = q;
    }

-- ---- its steps

-- a seal is carried out, or the file is open
seal_decided :
    (v : Bool) (c : Contents) (f : Gfid) (n : ℕ) (r : Reply)
    → r
    ≡ reply_in
    (within (with_opens c)
    (if v then Do given.Nothing (sealed c.opens f) else Refuse (why.Open n)))
    → is_sealing r ≡ true
seal_decided true c f n r e = ap is_sealing e
seal_decided false c f n r e = ap is_sealing e

seal_is_answered :
    (x : Orphan) (s t : Scene) (r : Reply) → fault_of r ≡ None → Guarantee s (asks_seal x) r t
    → is_sealing r ≡ true
seal_is_answered x s t r z m =
    let c : Contents = s.disk.brick (reap_brick x) in
    seal_decided (registrations c.opens x.file == 0) c x.file (registrations c.opens x.file) r (row_reply s t (asks_seal x) r m z)

module _ (locks : List Lock) where
  abbrev Went : Reap → Reply → Scene → Turn Reap (Option Errno) → Type 0
  Went m r t turn = MatchTurn turn (λ n. GoesOn (reap_stage locks m) (reap_stage locks n) r t) (λ d. EndsIn (reap_stage locks m) (reap_ending locks d) t)

  claims_kept : (m : Reap) (r : Reply) (at : ℕ) (s t : Scene) → Served (reap_stage locks m) r at s t → Rattle.dht_section.specs.Stages.MayClaimNext t (reap_stage locks m).claims (reap_stage locks m).claims
  claims_kept (Sealing x) r at s t v = claims_more (reap_stage locks (Sealing x)) r at s t locks v (λ b key q. q)
  claims_kept (Dropping x) r at s t v = claims_more (reap_stage locks (Dropping x)) r at s t locks v (λ b key q. q)

  sealed_step : (x : Orphan) (r : Reply) (at : ℕ) (s t : Scene) → is_carried (reply_kind r) ≡ true → Served (reap_stage locks (Sealing x)) r at s t → GoesOn (reap_stage locks (Sealing x)) (reap_stage locks (Dropping x)) r t
  sealed_step x r at s t k v = record {
    claims = claims_kept (Sealing x) r at s t v;
    knows = shut_after x s t r (reap_brick_is x s v.before v.is_at.knows) k v.is_at.knows v.moved;
    nearer = λ u. (λ w. omega arith, omega arith);
  }

  seal_steps : (x : Orphan) (r : Reply) (at : ℕ) (s t : Scene) → fault_of r ≡ None → Served (reap_stage locks (Sealing x)) r at s t → Went (Sealing x) r t (seal_answered x r)
  seal_steps x (Carried g) at s t z v = sealed_step x (Carried g) at s t refl v
  seal_steps x (Declined (why.Open n)) at s t z v = record { claims = claims_kept (Sealing x) _ at s t v; earned = tt }
  seal_steps x r at s t z v = absurd (let q : is_sealing r ≡ true = seal_is_answered x s t r z v.moved in let w : false ≡ true = q in cc)

  drop_steps : (x : Orphan) (r : Reply) (at : ℕ) (s t : Scene) → fault_of r ≡ None → Served (reap_stage locks (Dropping x)) r at s t → Went (Dropping x) r t (drop_answered x r)
  drop_steps x (Carried g) at s t z v = record { claims = claims_kept (Dropping x) _ at s t v; earned = tt }
  drop_steps x (Declined w) at s t z v = record { claims = claims_kept (Dropping x) _ at s t v; earned = tt }
  drop_steps x (Wait c) at s t z v = again (reap_stage locks (Dropping x)) (Wait c) at s t (reap_stable locks (Dropping x)) z refl refl refl v
  drop_steps x r at s t z v = absurd (let q : fault_of r ≡ None = z in cc)

  answered_steps : (m : Reap) (r : Reply) (at : ℕ) (s t : Scene) → fault_of r ≡ None → Served (reap_stage locks m) r at s t → Went m r t (reap_answered m r)
  answered_steps (Sealing x) r at s t z v = seal_steps x r at s t z v
  answered_steps (Dropping x) r at s t z v = drop_steps x r at s t z v

  unless_steps : (m : Reap) (r : Reply) (at : ℕ) (s t : Scene) (o : Option Errno) → fault_of r ≡ o → Served (reap_stage locks m) r at s t → Went m r t (reap_unless o (reap_answered m r))
  unless_steps m r at s t None z v = answered_steps m r at s t z v
  unless_steps (Sealing x) r at s t (Some e) z v = record { claims = claims_kept (Sealing x) r at s t v; earned = fault_earned s t _ r e z v.moved }
  unless_steps (Dropping x) r at s t (Some e) z v = record { claims = claims_kept (Dropping x) r at s t v; earned = fault_earned s t _ r e z v.moved }

  pub reap_moves : (m : Reap) (r : Reply) (at : ℕ) → Moves (reap_stage locks) (reap_ending locks) m r at (reap_after m r)
  reap_moves m r at s t v = unless_steps m r at s t (fault_of r) refl v

-- ---- what it notes, and what it sends again

seal_noted : (x : Orphan) (r : Reply) → fault_of r ≡ None → EndsByFault r (seal_answered x r)
seal_noted x (Carried g) z = z
seal_noted x (Declined (why.Open n)) z = refl
seal_noted x r z = z

drop_noted : (x : Orphan) (r : Reply) → fault_of r ≡ None → EndsByFault r (drop_answered x r)
drop_noted x (Carried g) z = refl
drop_noted x (Declined w) z = refl
drop_noted x r z = z

noted_by :
    (m : Reap) (r : Reply) (o : Option Errno) → fault_of r ≡ o
    → EndsByFault r (reap_unless o (reap_answered m r))
noted_by (Sealing x) r None z = seal_noted x r z
noted_by (Dropping x) r None z = drop_noted x r z
noted_by m r (Some e) z = sym z

pub reap_noted : (m : Reap) (r : Reply) → EndsByFault r (reap_after m r)
reap_noted m r = noted_by m r (fault_of r) refl

seal_again : (x : Orphan) (r : Reply) → is_sealing r ≡ false → seal_answered x r ≡ Go (Sealing x)
seal_again x (Carried g) z = absurd (let q : true ≡ false = z in cc)
seal_again x (Declined (why.Open n)) z = absurd (let q : true ≡ false = z in cc)
seal_again x r z = refl

drop_again : (x : Orphan) (r : Reply) → is_decided r ≡ false → drop_answered x r ≡ Go (Dropping x)
drop_again x (Carried g) z = absurd (let q : true ≡ false = z in cc)
drop_again x (Declined w) z = absurd (let q : true ≡ false = z in cc)
drop_again x r z = refl

pub reap_again :
    (locks : List Lock) (m : Reap) (r : Reply) → IsUnanswered (reap_stage locks m) r
    → reap_after m r ≡ Go m
reap_again locks (Sealing x) r h = ap (λ (o : Option Errno). reap_unless o (seal_answered x r)) h.0 ∙ seal_again x r h.1
reap_again locks (Dropping x) r h = ap (λ (o : Option Errno). reap_unless o (drop_answered x r)) h.0 ∙ drop_again x r h.1
