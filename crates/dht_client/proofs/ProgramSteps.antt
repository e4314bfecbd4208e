-- Where a program is, by its call, and how a reply takes it on.
use Rattle.std.proofs.Common.{◌≡◌, ◌∙◌, ℕ, true, false, ap, subst, sym}
use Rattle.dht_brick.specs.declared.replies.Reply.{Reply}
use Rattle.dht_section.proofs.PartSteps.{ends_as, goes_as, part_goes_on, part_served}
use Rattle.dht_section.specs.AsCallLaws.{may_answer_as_itself}
use Rattle.dht_section.specs.Ended.{ended}
use Rattle.dht_section.specs.FirstLookup.{FindsSoon, IsFirstLookup}
use Rattle.dht_section.specs.Location.{entry_at}
use Rattle.dht_section.specs.Scene.{Scene}
use Rattle.dht_section.specs.Truth.{Placed}
use Rattle.dht_section.specs.Stages.{EndsIn, GoesOn, MatchTurn, Served, Stage}
use Rattle.dht_section.specs.declared.ended.Ended.{Ended}
use Rattle.dht_section.specs.declared.location.Location.{Location}
use Rattle.dht_section.specs.declared.machine.Turn.{Turn}
use Rattle.dht_section.specs.declared.machine.Turn.TheVariants.{Go, Done}
use Rattle.dht_types.specs.Gfid.{Entry}
use Rattle.dht_types.specs.declared.calls.Call.{Call}
use Rattle.dht_types.specs.declared.calls.Call.TheVariants as call
use Rattle.dht_types.specs.declared.identifiers.Gfid.{Gfid}
use Rattle.dht_resolve.proofs.WaySteps.{way_next}
use Rattle.dht_resolve.specs.FirstWay.{IsAtEnd, OnWay}
use Rattle.dht_resolve.specs.Lookup.{as_ended, lookup_stage, resolved}
use Rattle.dht_resolve.specs.LookupName.{lookup_location}
use Rattle.dht_resolve.specs.Turns.{lookup_after}
use Rattle.dht_resolve.specs.declared.lookup.Lookup.{Lookup}
use Rattle.dht_resolve.specs.declared.lookup.Resolved.{Resolved}
use Rattle.dht_fileops.specs.Create.{create_stage}
use Rattle.dht_fileops.specs.Unlink.{unlink_stage}
use Rattle.dht_fileops.specs.declared.create.Create.{Create}
use Rattle.dht_fileops.specs.declared.unlink.Unlink.{Unlink}
use Rattle.dht_heal.specs.HealCall.{call_stage}
use Rattle.dht_heal.specs.declared.call.HealCall.{HealCall}
use Rattle.dht_dirops.specs.Mkdir.{mkdir_stage}
use Rattle.dht_dirops.specs.declared.mkdir.Mkdir.{Mkdir}
use Rattle.dht_dirops.specs.Rmdir.{rmdir_stage}
use Rattle.dht_dirops.specs.declared.rmdir.Rmdir.{Rmdir}
use Rattle.dht_client.specs.Program.{IsLookup, IsNoHeal, IsNoLookup, is_lookup, of_lookup, on_way, program_ended, program_stage, program_way, without_heal}
use Rattle.dht_client.specs.declared.program.Program.{Program}
use Rattle.dht_client.specs.declared.program.Program.TheVariants.{LookingUp, Creating, Making, Unlinking, Removing, Healing}

-- ---- where it is

pub at_lookup :
    (p : Program) (m : Lookup) → p ≡ LookingUp m
    → program_stage p ≡ of_lookup (lookup_location m) (lookup_stage m)
unfolding program_stage
at_lookup p m e = ap program_stage e

pub at_create :
    (p : Program) (m : Create) → p ≡ Creating m → program_stage p ≡ without_heal (create_stage m)
unfolding program_stage
at_create p m e = ap program_stage e

pub at_mkdir :
    (p : Program) (m : Mkdir) → p ≡ Making m → program_stage p ≡ without_heal (mkdir_stage m)
unfolding program_stage
at_mkdir p m e = ap program_stage e

pub at_unlink :
    (p : Program) (m : Unlink) → p ≡ Unlinking m → program_stage p ≡ without_heal (unlink_stage m)
unfolding program_stage
at_unlink p m e = ap program_stage e

pub at_rmdir :
    (p : Program) (m : Rmdir) → p ≡ Removing m → program_stage p ≡ without_heal (rmdir_stage m)
unfolding program_stage
at_rmdir p m e = ap program_stage e

pub at_heal : (p : Program) (m : HealCall) → p ≡ Healing m → program_stage p ≡ call_stage m
unfolding program_stage
at_heal p m e = ap program_stage e

-- ---- a call that is no heal

still_no_heal :
    (x : Stage) (r : Reply) (at : ℕ) (s t : Scene) → Served (without_heal x) r at s t → IsNoHeal t
still_no_heal x r at s t h = λ d e. h.is_at.knows.1 d (sym h.moved.mine.call ∙ e)

no_heal_goes :
    (x y : Stage) (r : Reply) (at : ℕ) (s t : Scene) → (Served x r at s t → GoesOn x y r t)
    → Served (without_heal x) r at s t → GoesOn (without_heal x) (without_heal y) r t
no_heal_goes x y r at s t f h = part_goes_on x y 0 IsNoHeal IsNoHeal r t (f (part_served x 0 IsNoHeal r at s t h)) (still_no_heal x r at s t h)

no_heal_ends :
    (x : Stage) (end : Ended) (r : Reply) (at : ℕ) (s t : Scene)
    → (Served x r at s t → EndsIn x (ended end) t) → Served (without_heal x) r at s t
    → EndsIn (without_heal x) (program_ended end) t
no_heal_ends x end r at s t f h =
    let k = f (part_served x 0 IsNoHeal r at s t h) in
    let none = still_no_heal x r at s t h in
    record { claims = k.claims; earned = (k.earned, λ d e done alone. absurd (none d e)) }

pub goes_without_heal :
    (p q : Program) (x y : Stage) (r : Reply) (at : ℕ) (s t : Scene)
    → program_stage p ≡ without_heal x → program_stage q ≡ without_heal y
    → (Served x r at s t → GoesOn x y r t) → Served (program_stage p) r at s t
    → GoesOn (program_stage p) (program_stage q) r t
goes_without_heal p q x y r at s t e k f h = goes_as (program_stage p) (without_heal x) (program_stage q) (without_heal y) r at s t e k (no_heal_goes x y r at s t f) h

pub ends_without_heal :
    (p : Program) (x : Stage) (end : Ended) (r : Reply) (at : ℕ) (s t : Scene)
    → program_stage p ≡ without_heal x → (Served x r at s t → EndsIn x (ended end) t)
    → Served (program_stage p) r at s t → EndsIn (program_stage p) (program_ended end) t
ends_without_heal p x end r at s t e f h = ends_as (program_stage p) (without_heal x) (program_ended end) r at s t e (no_heal_ends x end r at s t f) h

-- ---- a lookup

still_lookup :
    (l : Location) (x : Stage) (r : Reply) (at : ℕ) (s t : Scene) → Served (of_lookup l x) r at s t
    → IsLookup l t
still_lookup l x r at s t h = h.moved.mine.call ∙ h.is_at.knows.1

lookup_goes_on :
    (l k : Location) (x y : Stage) (r : Reply) (at : ℕ) (s t : Scene) → k ≡ l
    → (Served x r at s t → GoesOn x y r t) → Served (of_lookup l x) r at s t
    → GoesOn (of_lookup l x) (of_lookup k y) r t
lookup_goes_on l k x y r at s t e f h = part_goes_on x y 0 (λ s. IsLookup l s) (λ s. IsLookup k s) r t (f (part_served x 0 (λ s. IsLookup l s) r at s t h)) (subst (λ (i : Location). IsLookup i t) (sym e) (still_lookup l x r at s t h))

pub lookup_goes :
    (p q : Program) (m n : Lookup) (r : Reply) (at : ℕ) (s t : Scene) → p ≡ LookingUp m
    → q ≡ LookingUp n → lookup_location n ≡ lookup_location m
    → (Served (lookup_stage m) r at s t → GoesOn (lookup_stage m) (lookup_stage n) r t)
    → Served (program_stage p) r at s t → GoesOn (program_stage p) (program_stage q) r t
lookup_goes p q m n r at s t e k same f h = goes_as (program_stage p) (of_lookup (lookup_location m) (lookup_stage m)) (program_stage q) (of_lookup (lookup_location n) (lookup_stage n)) r at s t (at_lookup p m e) (at_lookup q n k) (lookup_goes_on (lookup_location m) (lookup_location n) (lookup_stage m) (lookup_stage n) r at s t same f) h

-- it has earned its answer
lookup_earns :
    (l : Location) (x : Stage) (d : Resolved) (r : Reply) (at : ℕ) (s t : Scene)
    → d.answered.location ≡ l → (Served x r at s t → EndsIn x (resolved d) t)
    → Served (of_lookup l x) r at s t → EndsIn (of_lookup l x) (program_ended (as_ended d)) t
lookup_earns l x d r at s t e f h =
    let k = f (part_served x 0 (λ s. IsLookup l s) r at s t h) in
    let it : IsLookup d.answered.location t = subst (λ (i : Location). IsLookup i t) (sym e) (still_lookup l x r at s t h) in
    record {
      claims = k.claims;
      earned = (may_answer_as_itself (call.Lookup d.answered.location.directory d.answered.location.name) d.answered.finish t it k.earned.0.told, λ g heal done alone. absurd (let z : call.Lookup d.answered.location.directory d.answered.location.name ≡ call.Heal g = sym it ∙ heal in cc));
    }

pub lookup_ends :
    (p : Program) (m : Lookup) (d : Resolved) (end : Ended) (r : Reply) (at : ℕ) (s t : Scene)
    → p ≡ LookingUp m → end ≡ as_ended d → d.answered.location ≡ lookup_location m
    → (Served (lookup_stage m) r at s t → EndsIn (lookup_stage m) (resolved d) t)
    → Served (program_stage p) r at s t → EndsIn (program_stage p) (program_ended end) t
lookup_ends p m d end r at s t e k same f h = subst (λ (x : Ended). EndsIn (program_stage p) (program_ended x) t) (sym k) (ends_as (program_stage p) (of_lookup (lookup_location m) (lookup_stage m)) (program_ended (as_ended d)) r at s t (at_lookup p m e) (lookup_earns (lookup_location m) (lookup_stage m) d r at s t same f) h)

-- ---- the way of a first lookup

way_of : (p : Program) (m : Lookup) (s : Scene) → p ≡ LookingUp m → program_way p s → OnWay m s
unfolding program_way
way_of p m s e h = subst (λ (x : Program). program_way x s) e h

to_way : (m : Lookup) (s : Scene) → OnWay m s → program_way (LookingUp m) s
unfolding program_way
to_way m s h = h

-- the lookup was served
served_lookup :
    (p : Program) (m : Lookup) (r : Reply) (at : ℕ) (s t : Scene) → p ≡ LookingUp m
    → Served (program_stage p) r at s t
    → Served (of_lookup (lookup_location m) (lookup_stage m)) r at s t
served_lookup p m r at s t e h = subst (λ (x : Stage). Served x r at s t) (at_lookup p m e) h

-- where it goes then
way_turns :
    (p : Program) (m : Lookup) (turn : Turn Lookup Resolved) (r : Reply) (at : ℕ) (s t : Scene)
    → p ≡ LookingUp m → turn ≡ lookup_after m r at → Served (program_stage p) r at s t
    → program_way p s → MatchTurn turn (λ n. OnWay n t) (λ d. IsAtEnd d.answered t)
way_turns p m turn r at s t e after h way =
    subst (λ (x : Turn Lookup Resolved). MatchTurn x (λ n. OnWay n t) (λ d. IsAtEnd d.answered t)) (sym after)
    (way_next m r at s t (part_served (lookup_stage m) 0 (λ s. IsLookup (lookup_location m) s) r at s t (served_lookup p m r at s t e h)) (way_of p m s e way))

pub lookup_keeps_way :
    (p : Program) (m n : Lookup) (r : Reply) (at : ℕ) (s t : Scene) → p ≡ LookingUp m
    → Go n ≡ lookup_after m r at → Served (program_stage p) r at s t → program_way p s
    → program_way (LookingUp n) t
lookup_keeps_way p m n r at s t e after h way = to_way n t (way_turns p m (Go n) r at s t e after h way)

-- the name of a lookup is one
same_entry :
    (l : Location) (e : Entry) (c : Call Gfid) → c ≡ call.Lookup l.directory l.name
    → c ≡ call.Lookup e.0 e.1 → e ≡ entry_at l
same_entry l e c is looks =
    let z : call.Lookup e.0 e.1 ≡ call.Lookup l.directory l.name = sym looks ∙ is in
    let dir : e.0 ≡ l.directory = cc in
    let name : e.1 ≡ l.name = cc in
    (λ i. (dir i, name i))

pub lookup_finds_soon :
    (p : Program) (m : Lookup) (d : Resolved) (end : Ended) (r : Reply) (at : ℕ) (s t : Scene)
    → p ≡ LookingUp m → end ≡ as_ended d → d.answered.location ≡ lookup_location m
    → Done d ≡ lookup_after m r at → Served (program_stage p) r at s t → program_way p s
    → FindsSoon end.finish t
lookup_finds_soon p m d end r at s t e k same after h way =
    let l = d.answered.location in
    let ends : IsAtEnd d.answered t = way_turns p m (Done d) r at s t e after h way in
    let is : IsLookup l t = subst (λ (i : Location). IsLookup i t) (sym same) (still_lookup (lookup_location m) (lookup_stage m) r at s t (served_lookup p m r at s t e h)) in
    subst (λ (x : Ended). FindsSoon x.finish t) (sym k) (λ y g first file placed.
    let one = same_entry l y t.mine.call is first.looks_up in
    ends g file (subst (Placed t.disk) one placed) (subst (IsFirstLookup t.history t.mine) one first))

no_way : (p : Program) (s : Scene) → is_lookup p ≡ false → program_way p s → IsNoLookup s
unfolding program_way is_lookup
no_way (LookingUp m) s e h = absurd (let z : true ≡ false = e in cc)
no_way (Creating m) s e h = h
no_way (Making m) s e h = h
no_way (Unlinking m) s e h = h
no_way (Removing m) s e h = h
no_way (Healing m) s e h = h

to_no_way : (p : Program) (s : Scene) → is_lookup p ≡ false → IsNoLookup s → program_way p s
unfolding program_way is_lookup
to_no_way (LookingUp m) s e h = absurd (let z : true ≡ false = e in cc)
to_no_way (Creating m) s e h = h
to_no_way (Making m) s e h = h
to_no_way (Unlinking m) s e h = h
to_no_way (Removing m) s e h = h
to_no_way (Healing m) s e h = h

still_no_lookup :
    (p : Program) (r : Reply) (at : ℕ) (s t : Scene) → is_lookup p ≡ false
    → Served (program_stage p) r at s t → program_way p s → IsNoLookup t
still_no_lookup p r at s t e h way = λ d n k. no_way p s e way d n (sym h.moved.mine.call ∙ k)

-- another call than a lookup has no such way
pub other_keeps_way :
    (p q : Program) (r : Reply) (at : ℕ) (s t : Scene) → is_lookup p ≡ false → is_lookup q ≡ false
    → Served (program_stage p) r at s t → program_way p s → program_way q t
other_keeps_way p q r at s t e k h way = to_no_way q t k (still_no_lookup p r at s t e h way)

pub other_finds_soon :
    (p : Program) (end : Ended) (r : Reply) (at : ℕ) (s t : Scene) → is_lookup p ≡ false
    → Served (program_stage p) r at s t → program_way p s → FindsSoon end.finish t
other_finds_soon p end r at s t e h way = λ y g first file placed. absurd (still_no_lookup p r at s t e h way y.0 y.1 first.looks_up)

-- which calls are no lookups
pub create_is_none : (p : Program) (m : Create) → p ≡ Creating m → is_lookup p ≡ false
unfolding is_lookup
create_is_none p m e = ap is_lookup e

pub mkdir_is_none : (p : Program) (m : Mkdir) → p ≡ Making m → is_lookup p ≡ false
unfolding is_lookup
mkdir_is_none p m e = ap is_lookup e

pub unlink_is_none : (p : Program) (m : Unlink) → p ≡ Unlinking m → is_lookup p ≡ false
unfolding is_lookup
unlink_is_none p m e = ap is_lookup e

pub rmdir_is_none : (p : Program) (m : Rmdir) → p ≡ Removing m → is_lookup p ≡ false
unfolding is_lookup
rmdir_is_none p m e = ap is_lookup e

pub heal_is_none : (p : Program) (m : HealCall) → p ≡ Healing m → is_lookup p ≡ false
unfolding is_lookup
heal_is_none p m e = ap is_lookup e

-- ---- a client's call

pub call_goes_on :
    (p q : Program) (r : Reply) (at : ℕ) (s t : Scene)
    → (Served (program_stage p) r at s t → GoesOn (program_stage p) (program_stage q) r t)
    → (Served (program_stage p) r at s t → program_way p s → program_way q t)
    → Served (on_way p) r at s t → GoesOn (on_way p) (on_way q) r t
call_goes_on p q r at s t goes way h =
    let served = part_served (program_stage p) 0 (λ s. program_way p s) r at s t h in
    part_goes_on (program_stage p) (program_stage q) 0 (λ s. program_way p s) (λ s. program_way q s) r t (goes served) (way served h.is_at.knows.1)

pub call_ends :
    (p : Program) (end : Ended) (r : Reply) (at : ℕ) (s t : Scene)
    → (Served (program_stage p) r at s t → EndsIn (program_stage p) (program_ended end) t)
    → (Served (program_stage p) r at s t → program_way p s → FindsSoon end.finish t)
    → Served (on_way p) r at s t → EndsIn (on_way p) (program_ended end) t × FindsSoon end.finish t
call_ends p end r at s t ends soon h =
    let served = part_served (program_stage p) 0 (λ s. program_way p s) r at s t h in
    let k = ends served in
    (record { claims = k.claims; earned = k.earned }, soon served h.is_at.knows.1)
