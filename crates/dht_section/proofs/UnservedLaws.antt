-- A request that was not carried out, though its brick did as
-- it should, does what others may do: so what is known stays.
use Rattle.std.proofs.Common.{◌≡◌, ◌≤◌, ◌||◌, ℕ, List, Bool, true, false, refl, sym, ◌∙◌, ap, subst}
use Rattle.std.specs.Prelude.{Option, Some, None, nat_eq}
use Rattle.dht_types.proofs.PutLaws.{put_keeps, exact_nat}
use Rattle.dht_types.specs.Gfid.{Entry}
use Rattle.dht_types.specs.Put.{put}
use Rattle.dht_types.specs.History.{is_carried, is_down, is_failed}
use Rattle.dht_types.specs.Tree.{Tree}
use Rattle.dht_types.specs.declared.calls.TreeStep.{TreeStep}
use Rattle.dht_types.specs.declared.errors.Errno.TheVariants.{Enotconn, Eio}
use Rattle.dht_types.specs.declared.identifiers.CallNo.{CallNo}
use Rattle.dht_brick.specs.Bricks.{ServesOrFails}
use Rattle.dht_brick.specs.Contents.{Contents}
use Rattle.dht_brick.specs.Kinds.{reply_kind}
use Rattle.dht_brick.specs.Outcome.{Outcome}
use Rattle.dht_brick.specs.declared.requests.Request.{Request}
use Rattle.dht_brick.specs.declared.replies.Reply.{Reply}
use Rattle.dht_brick.specs.declared.replies.Reply.TheVariants.{Ok as Carried, Refused as Declined, Wait, Down, Failed, NoMemory}
use Rattle.dht_section.proofs.SceneLaws.{real_is, served_as_seen}
use Rattle.dht_section.specs.Disk.{Disk, slot_at, file_at, dir_at, holders}
use Rattle.dht_section.specs.Moves.{Guarantee, step_of, tree_by, deeds_by}
use Rattle.dht_section.specs.Names.{StandsAs}
use Rattle.dht_section.specs.Planned.{AllPlanned}
use Rattle.dht_section.specs.Rely.{Rely, SameCall, IsFileUsed, IsNameless, outline}
use Rattle.dht_section.specs.Replies.{fault_of}
use Rattle.dht_section.specs.Scene.{Scene, NameStands}
use Rattle.dht_section.specs.Shapes.{NameShape, Bare, Folder, Plain, Marked, Contested, Standing, Copied, Committed, Grows}
use Rattle.dht_section.specs.Views.{cores_of, view_of}
use Rattle.dht_section.specs.declared.machine.Ask.{Ask}

pub grows_refl : (h : NameShape) → Grows h h
grows_refl Bare = refl
grows_refl (Folder g on) = (on, refl, λ b q. q)
grows_refl (Plain b f) = refl
grows_refl (Marked b f x) = refl
grows_refl (Contested b f x g) = refl
grows_refl (Standing x g) = refl
grows_refl (Copied b f t) = refl
grows_refl (Committed t f) = (false, refl)

-- the bricks, the tree and my call are as they were
pub record Unchanged (s t : Scene) : Type 0 where
  pub who : t.who ≡ s.who
  pub mine : SameCall s.mine t.mine
  pub disk : t.disk ≡ s.disk
  pub tree : t.history.tree ≡ s.history.tree
  pub run : t.history.run ≡ s.history.run
  pub weights : t.history.weights ≡ s.history.weights
  pub calls : t.history.calls ≡ s.history.calls
  pub later : s.history.size ≤ t.history.size
  pub past : (j : ℕ) → j ≤ s.history.size → t.history.past j ≡ s.history.past j

stands_same :
    (s t : Scene) → Unchanged s t → (e : Entry) (h : NameShape) → NameStands s e h
    → NameStands t e h
stands_same s t x e h k =
    subst (λ (d : Disk). StandsAs d.count (cores_of d e) (t.history.tree.names e) h) (sym x.disk)
    (subst (λ (p : Tree). StandsAs s.disk.count (cores_of s.disk e) (p.names e) h) (sym x.tree) k)

pub unchanged_is_rely : (s t : Scene) → Unchanged s t → Rely s t
unchanged_is_rely s t x = record {
  who = x.who;
  mine = x.mine;
  count = ap (λ (d : Disk). d.count) x.disk;
  run = x.run;
  weights = x.weights;
  locks = λ b key. ap (λ (d : Disk). holders d b key s.who.0) x.disk;
  names = λ e h g k. (h, grows_refl h, stands_same s t x e h k);
  slots = λ e b g h. ap (λ (d : Disk). slot_at d b e) x.disk;
  outlines = λ e b f g l h. ap (λ (d : Disk). outline (file_at d b f)) x.disk;
  dirs = λ g b r h e. (r, ap (λ (d : Disk). dir_at d b g) x.disk ∙ e, record { place = refl; depth = refl; hashes = refl });
  added = λ g b r h e k. absurd (let z : None ≡ Some r = sym e ∙ (sym (ap (λ (d : Disk). dir_at d b g) x.disk) ∙ k) in cc);
  known = λ g h e. ap (λ (p : Tree). p.dirs g) x.tree ∙ e;
  both = λ e g on h k n. stands_same s t x e (Folder g on) n;
  planned = λ g h. subst (λ (d : Disk). AllPlanned d t.history.weights g) (sym x.disk) (subst (λ (ws : List ℕ). AllPlanned s.disk ws g) (sym x.weights) h);
  made = λ g y h. ap (λ (p : Tree). p.descents g) x.tree ∙ h;
  still = λ h. record {
    before = record {
      first = sym x.mine.alone ∙ h.first;
      last = ap (λ (k : CallNo). k.0) (sym x.mine.number) ∙ (h.last ∙ x.calls);
    };
    tree = x.tree;
    stores = λ b. ap (λ (d : Disk). (d.brick b).store) x.disk;
  };
  used = λ f h. subst (λ (d : Disk). IsFileUsed d t.history.tree f) (sym x.disk) (subst (λ (p : Tree). IsFileUsed s.disk p f) (sym x.tree) h);
  sealed = λ f h. ap (λ (d : Disk). (view_of d f).sealed) x.disk ∙ h;
  nameless = λ f h. subst (λ (d : Disk). IsNameless d t.history.tree f) (sym x.disk) (subst (λ (p : Tree). IsNameless s.disk p f) (sym x.tree) h);
  later = x.later;
  past = x.past;
}

-- what is set to what it was is as it was
put_back : (f : ℕ → Contents) (b : ℕ) (v : Contents) → v ≡ f b → put nat_eq f b v ≡ f
put_back f b v e = λ i m. put_keeps (λ (x : Contents). x) nat_eq exact_nat f b v e m i

-- where it was refused or had to wait, nothing was done
left_alone :
    (o : Outcome Contents) (old : Contents) (r : Reply) (new : Contents) → fault_of r ≡ None
    → is_carried (reply_kind r) ≡ false → ServesOrFails o old r new → new ≡ old
left_alone o old (Carried given) new z k h = absurd (let e : true ≡ false = k in cc)
left_alone o old (Declined why) new z k h = h.1
left_alone o old (Wait holder) new z k h = h.1
left_alone o old Down new z k h = h
left_alone o old Failed new z k h = h
left_alone o old NoMemory new z k h = h

no_step_done :
    (b : ℕ) (q : Request) (r : Reply) → is_carried (reply_kind r) ≡ false → step_of b q r ≡ None
no_step_done b q (Carried given) k = absurd (let e : true ≡ false = k in cc)
no_step_done b q (Declined why) k = refl
no_step_done b q (Wait holder) k = refl
no_step_done b q Down k = refl
no_step_done b q Failed k = refl
no_step_done b q NoMemory k = refl

not_down : (r : Reply) → fault_of r ≡ None → is_down (reply_kind r) ≡ false
not_down (Carried given) z = refl
not_down (Declined why) z = refl
not_down (Wait holder) z = refl
not_down Down z = absurd (let k : Some Enotconn ≡ None = z in cc)
not_down Failed z = refl
not_down NoMemory z = refl

not_failed : (r : Reply) → fault_of r ≡ None → is_failed (reply_kind r) ≡ false
not_failed (Carried given) z = refl
not_failed (Declined why) z = refl
not_failed (Wait holder) z = refl
not_failed Down z = refl
not_failed Failed z = absurd (let k : Some Eio ≡ None = z in cc)
not_failed NoMemory z = refl

or_nothing : (a b : Bool) → b ≡ false → (a || b) ≡ a
or_nothing true b e = refl
or_nothing false b e = e

-- so is what a request leaves that changes nothing
pub nothing_done :
    (s t : Scene) (a : Ask) (r : Reply) → fault_of r ≡ None → (m : Guarantee s a r t)
    → m.new ≡ s.disk.brick a.brick.0 → step_of a.brick.0 a.request m.real ≡ None → Unchanged s t
nothing_done s t a r z m same none =
    let bricks : t.disk.brick ≡ s.disk.brick = m.disk.brick ∙ put_back s.disk.brick a.brick.0 m.new same in
    record {
      who = m.who;
      mine = record {
        number = m.mine.number;
        call = m.mine.call;
        since = m.mine.since;
        alone = m.mine.alone;
        is_first = m.mine.is_first;
        was_down = m.mine.was_down ∙ or_nothing s.mine.was_down _ (not_down r z);
        has_failed = m.mine.has_failed ∙ or_nothing s.mine.has_failed _ (not_failed r z);
        deeds = m.mine.deeds_are ∙ ap (λ (o : Option TreeStep). deeds_by s t.history.size o) none;
      };
      disk = λ i. record { count = m.disk.count i; brick = bricks i };
      tree = m.tree ∙ ap (λ (o : Option TreeStep). tree_by o s.history.tree) none;
      run = m.run;
      weights = m.weights;
      calls = m.calls;
      later = m.later;
      past = m.past;
    }

pub unserved :
    (s t : Scene) (a : Ask) (r : Reply) → fault_of r ≡ None → is_carried (reply_kind r) ≡ false
    → Guarantee s a r t → Unchanged s t
unserved s t a r z k m = nothing_done s t a r z m
    (left_alone _ (s.disk.brick a.brick.0) r m.new z k (served_as_seen s t a r m z))
    (ap (step_of a.brick.0 a.request) (real_is s t a r m z) ∙ no_step_done a.brick.0 a.request r k)

pub unserved_is_rely :
    (s t : Scene) (a : Ask) (r : Reply) → fault_of r ≡ None → is_carried (reply_kind r) ≡ false
    → Guarantee s a r t → Rely s t
unserved_is_rely s t a r z k m = unchanged_is_rely s t (unserved s t a r z k m)
