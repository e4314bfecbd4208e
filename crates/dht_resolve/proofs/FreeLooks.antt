-- What a look shows that was sent before any lock: a file or a directory is what the tree has then.
use Rattle.std.proofs.Common.{◌≡◌, ◌≢◌, ◌<◌, ℕ, Bool, true, false, List, refl, sym, ◌∙◌, ap, subst, arith}
use Rattle.std.specs.Prelude.{Option, Some, None, nat_eq, if◌then◌else◌}
use Rattle.dht_types.specs.Gfid.{Entry}
use Rattle.dht_types.specs.History.{Deeds, HasPoint, Tells}
use Rattle.dht_types.specs.Tree.{Tree, Node, IsFile, IsDir, Refuse, says, looked_up as tree_says, answer_of}
use Rattle.dht_types.specs.declared.calls.Answer.{Answer}
use Rattle.dht_types.specs.declared.calls.Answer.TheVariants as answer
use Rattle.dht_types.specs.declared.calls.Call.TheVariants.{Lookup}
use Rattle.dht_types.specs.declared.errors.Errno.TheVariants.{Estale}
use Rattle.dht_types.specs.declared.identifiers.Gfid.{Gfid}
use Rattle.dht_types.specs.declared.stored.Main.{Main}
use Rattle.dht_types.specs.declared.stored.Main.TheVariants.{Dir, File, Linkto}
use Rattle.dht_types.specs.declared.stored.Slot.{Slot}
use Rattle.dht_brick.specs.Contents.{bare}
use Rattle.dht_brick.specs.declared.replies.Reply.{Reply}
use Rattle.dht_brick.specs.declared.replies.Reply.TheVariants as reply
use Rattle.dht_section.proofs.SceneLaws.{deeds_quiet, tree_quiet}
use Rattle.dht_section.proofs.ShownLaws.{look_main}
use Rattle.dht_section.specs.AsCall.{as_call}
use Rattle.dht_section.specs.Disk.{slot_at}
use Rattle.dht_section.specs.Location.{entry_at}
use Rattle.dht_section.specs.Looks.{main_shown}
use Rattle.dht_section.specs.Moves.{Guarantee}
use Rattle.dht_section.specs.Replies.{fault_of}
use Rattle.dht_section.specs.Scene.{Scene, Sound}
use Rattle.dht_section.specs.Shapes.{NameShape, Bare, Folder, Plain, Marked, Contested, Standing, Copied, Committed, here, when_on, main_at, node_of}
use Rattle.dht_section.specs.Views.{visible}
use Rattle.dht_section.specs.declared.location.Location.{Location}
use Rattle.dht_resolve.specs.Lookup.{Seeks, look_ask}
use Rattle.dht_resolve.specs.LookupLaws.{room_count}
use Rattle.dht_resolve.specs.declared.lookup.Sought.{Sought}
use Rattle.dht_section.specs.declared.section.Prepared.{Prepared}

-- what a main part tells of the tree: a linkto tells nothing
abbrev pub told : Main → Option Node
told (File f over) = Some (IsFile f)
told (Dir g) = Some (IsDir g)
told (Linkto value) = None

-- what a lookup answers to a name that the tree has
abbrev pub node_answer : Node → Answer
node_answer (IsFile f) = answer.File f
node_answer (IsDir g) = answer.Dir g

-- ---- one main part tells how the name stands

here_some : {A : Type 0} (v w : A) (a b : ℕ) → here (Some v) a b ≡ Some w → v ≡ w
here_some {A} v w a b h = by (nat_eq b a) h
  where
    by : (x : Bool) → (if x then Some v else None) ≡ Some w → v ≡ w
    by true e = cc
    by false e = absurd (let z : None ≡ Some w = e in cc)

on_some : {A : Type 0} (v w : A) (x : Bool) → when_on x v ≡ Some w → v ≡ w
on_some v w true h = (let z : Some v ≡ Some w = h in cc)
on_some v w false h = absurd (let z : None ≡ Some w = h in cc)

shape_told : (h : NameShape) (i : ℕ) (m : Main) → main_at h i ≡ Some m → node_of h ≡ told m
shape_told Bare i m e = absurd (let z : None ≡ Some m = e in cc)
shape_told (Folder g on) i m e = ap told (on_some (Dir g) m (on i) e)
shape_told (Plain b f) i m e = ap told (here_some (File f None) m b i e)
shape_told (Marked b f x) i m e = ap told (here_some (File f (Some x)) m b i e)
shape_told (Contested b f x g) i m e = ap told (here_some (File f (Some x)) m b i e)
shape_told (Standing x g) i m e = absurd (let z : None ≡ Some m = e in cc)
shape_told (Copied b f t) i m e = ap told (here_some (File f None) m b i e)
shape_told (Committed t f) i m e = absurd (let z : None ≡ Some m = e in cc)

seen_told : (m : Main) (node : Node) → told m ≡ Some node → visible (Some m) ≡ Some m
seen_told (File f over) node e = refl
seen_told (Dir g) node e = refl
seen_told (Linkto value) node e = absurd (let z : None ≡ Some node = e in cc)

-- so what a brick has at a name is what the tree has
main_told :
    (s : Scene) (e : Entry) (b : ℕ) (m : Main) (node : Node) → Sound s → b < s.disk.count
    → (slot_at s.disk b e).main ≡ Some m → told m ≡ Some node → s.history.tree.names e ≡ Some node
main_told s e b m node sound there h tells =
    let n = sound.kept.things.names e in
    let seen : main_at n.0 b ≡ Some m = sym (ap (λ (p : Slot). p.main) (n.1.has b there)) ∙ (ap visible h ∙ seen_told m node tells) in
    n.1.node ∙ (shape_told n.0 b m seen ∙ tells)

-- and its directory is one of the tree
not_bare : (p : Slot) (m : Main) → p.main ≡ Some m → p ≢ bare
not_bare p m e k = (let z : None ≡ Some m = ap (λ (x : Slot). x.main) (sym k) ∙ e in cc)

main_housed :
    (s : Scene) (e : Entry) (b : ℕ) (m : Main) → Sound s → b < s.disk.count
    → (slot_at s.disk b e).main ≡ Some m → s.history.tree.dirs e.0 ≡ true
main_housed s e b m sound there h = ((sound.kept.things.dirs e.0).led b there (sound.kept.things.housed e b there (not_bare (slot_at s.disk b e) m h))).1

-- ---- the answer

says_told :
    (p : Tree) (d : Gfid) (n : List ℕ) (node : Node) (g : Gfid) → p.dirs d ≡ true
    → p.names (d, n) ≡ Some node → answer_of (says p (Lookup d n) g) ≡ Some (node_answer node)
says_told p d n (IsFile f) g e k = ap (λ b. answer_of (if b then tree_says (p.names (d, n)) else Refuse Estale)) e ∙ ap (λ o. answer_of (tree_says o)) k
says_told p d n (IsDir f) g e k = ap (λ b. answer_of (if b then tree_says (p.names (d, n)) else Refuse Estale)) e ∙ ap (λ o. answer_of (tree_says o)) k

-- a reply that shows a main part is no fault
shown_sound : (r : Reply) (m : Main) → main_shown r ≡ Some m → fault_of r ≡ None
shown_sound (reply.Ok g) m e = refl
shown_sound (reply.Refused w) m e = refl
shown_sound (reply.Wait c) m e = refl
shown_sound reply.Down m e = absurd (let z : None ≡ Some m = e in cc)
shown_sound reply.Failed m e = absurd (let z : None ≡ Some m = e in cc)
shown_sound reply.NoMemory m e = absurd (let z : None ≡ Some m = e in cc)

-- what is known after a look that shows a file or a directory
pub record LookTold (x : Sought) (node : Node) (at : ℕ) (t : Scene) : Type 0 where
  pub point : HasPoint t.history (as_call (Lookup x.location.directory x.location.name) t).mine (Some at) (node_answer node)
  pub names : t.history.tree.names (entry_at x.location) ≡ Some node
  pub deeds : t.mine.deeds ≡ None

-- the answer has its point there, and the name is that still
pub look_told :
    (x : Sought) (w : Prepared) (m : Main) (node : Node) (r : Reply) (at : ℕ) (s t : Scene)
    → main_shown r ≡ Some m → told m ≡ Some node → Sound s → Sound t → at ≡ t.history.size
    → Seeks x.location w x.brick s → Guarantee s (look_ask x) r t → LookTold x node at t
look_told x w m node r at s t shown tells before after line k v =
    let l : Location = x.location in
    let e : Entry = entry_at l in
    let bricks = room_count l w s before k.waits in
    let within = k.within in
    let there : x.brick.0 < s.disk.count = omega arith in
    let main : (slot_at s.disk x.brick.0 e).main ≡ Some m = sym (look_main e x.brick s t r before there (shown_sound r m shown) v) ∙ shown in
    let names = main_told s e x.brick.0 m node before there main tells in
    let begun = after.begun in
    let same : t.history.tree ≡ s.history.tree = tree_quiet s t _ r tt v in
    let now : t.history.past at ≡ s.history.tree = ap t.history.past line ∙ (after.kept.point ∙ same) in
    let deeds : t.mine.deeds ≡ None = deeds_quiet s t _ r tt v ∙ k.waits.can.fresh.deeds in
    record {
      point = record {
        point = at;
        printed = refl;
        after = omega arith;
        before = omega arith;
        tells = subst (λ (o : Option Deeds). Tells t.history (Lookup l.directory l.name) o at (node_answer node)) (sym deeds)
            (λ (g : Gfid). ap (λ (p : Tree). answer_of (says p (Lookup l.directory l.name) g)) now
            ∙ says_told s.history.tree l.directory l.name node g (main_housed s e x.brick.0 m before there main) names);
      };
      names = ap (λ (p : Tree). p.names e) same ∙ names;
      deeds = deeds;
    }
