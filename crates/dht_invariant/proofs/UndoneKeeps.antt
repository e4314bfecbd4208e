-- A request that was refused, or not served, keeps the clauses: nothing changes but lines.
use Rattle.std.proofs.Common.{◌≡◌, ℕ, refl, sym, ap, ◌∙◌, subst, inl, inr}
use Rattle.std.specs.Prelude.{Option, None}
use Rattle.dht_types.specs.Tree.{Tree}
use Rattle.dht_types.specs.declared.calls.TreeStep.{TreeStep}
use Rattle.dht_brick.specs.Contents.{Contents}
use Rattle.dht_brick.specs.declared.replies.Reply.{Reply}
use Rattle.dht_section.specs.declared.machine.Ask.{Ask}
use Rattle.dht_section.specs.Claims.{Claim}
use Rattle.dht_section.specs.Disk.{Disk, slot_at, file_at, dir_at, holders}
use Rattle.dht_section.specs.Early.{Early}
use Rattle.dht_section.specs.Invariant.{Things, Used, most_hops}
use Rattle.dht_section.specs.Moves.{Guarantee, step_of, tree_by}
use Rattle.dht_section.specs.Rely.{IsFileUsed}
use Rattle.dht_section.specs.Scene.{Scene, Sound}
use Rattle.dht_section.specs.Views.{view_of}
use Rattle.dht_invariant.specs.Laws.{Preserves}
use Rattle.dht_invariant.proofs.ClauseLocality.{hops_grow}
use Rattle.dht_invariant.proofs.Frames.{kept_by}
use Rattle.dht_invariant.proofs.NoMoreLaws.{taken_touches}
use Rattle.dht_invariant.proofs.QuietKeeps.{at_most, same_stores, things_same, early_same}

module _ (s t : Scene) (a : Ask) (r : Reply) (m : Guarantee s a r t) (sound : Sound s) (step : step_of a.brick.0 a.request m.real ≡ None) (same : m.new ≡ s.disk.brick a.brick.0) where
  disk : t.disk ≡ s.disk
  disk = λ j. record { count = m.disk.count j; brick = λ i. kept_by (λ (c : Contents). c) s.disk t.disk a.brick.0 m.new m.disk same i j }

  tree : t.history.tree ≡ s.history.tree
  tree = m.tree ∙ ap (λ (x : Option TreeStep). tree_by x s.history.tree) step

  things : Things s.disk s.history.tree (most_hops t.history) s.claims
  things = things_same s.disk s.disk (same_stores s.disk) s.history.tree (most_hops s.history) (most_hops t.history) s.claims s.claims
      (hops_grow s.history t.history m.later) (λ f b w. at_most _ _ refl) sound.kept.things.locks sound.kept.things

  pub undone_leaves : Preserves s t
  undone_leaves = record {
    things = subst (λ (p : ℕ → Claim). Things t.disk t.history.tree (most_hops t.history) p) (sym m.claims)
        (subst (λ (d : Disk). Things d t.history.tree (most_hops t.history) s.claims) (sym disk)
        (subst (λ (u : Tree). Things s.disk u (most_hops t.history) s.claims) (sym tree) things));
    early = subst (λ (d : Disk). Early d t.history) (sym disk) (early_same s.disk s.disk (same_stores s.disk) s.history t.history tree m.run m.weights sound.early);
    used = λ g h. subst (λ (u : Tree). Used s.disk u g) tree (subst (λ (d : Disk). Used d t.history.tree g) disk h);
    touches = taken_touches s t.disk t.history.tree (record {
      stores = record {
        count = m.disk.count;
        slots = λ b x. inl (ap (λ (d : Disk). slot_at d b x) disk);
        files = λ b f. inl (ap (λ (d : Disk). file_at d b f) disk);
        dirs = λ b g. ap (λ (d : Disk). dir_at d b g) disk;
      };
      locks = λ c b key ne. ap (λ (d : Disk). holders d b key c) disk;
      names = λ x. inr (ap (λ (u : Tree). u.names x) tree, λ b. ap (λ (d : Disk). slot_at d b x) disk);
      files = λ f. inr (λ b. ap (λ (d : Disk). file_at d b f) disk);
      dirs = λ g. ap (λ (u : Tree). u.dirs g) tree;
      descents = λ g. ap (λ (u : Tree). u.descents g) tree;
      used = λ f h. subst (λ (d : Disk). IsFileUsed d t.history.tree f) (sym disk) (subst (λ (u : Tree). IsFileUsed s.disk u f) (sym tree) h);
      sealed = λ f h. ap (λ (d : Disk). (view_of d f).sealed) disk ∙ h;
    });
  }
