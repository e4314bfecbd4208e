-- What follows of names and files while calls only look for files, make them and unlink them.
use Rattle.std.proofs.Common.{◌≡◌, ◌<◌, ◌≤◌, ℕ, false, refl, sym, ap, ◌∙◌, subst, inl, inr, ◌⊎◌}
use Rattle.std.specs.Prelude.{Option, Some, None}
use Rattle.std.specs.FinMap.{contains_key}
use Rattle.dht_types.specs.Gfid.{Entry, run_of}
use Rattle.dht_types.specs.History.{History}
use Rattle.dht_types.specs.declared.identifiers.Gfid.{Gfid}
use Rattle.dht_types.specs.declared.stored.Main.{Main}
use Rattle.dht_types.specs.declared.stored.Main.TheVariants.{Dir, File, Linkto}
use Rattle.dht_types.specs.declared.stored.Slot.{Slot}
use Rattle.dht_types.specs.declared.stored.Record.{Record}
use Rattle.dht_hash.specs.DaviesMeyer.{dm}
use Rattle.dht_xattr.specs.Layout.{holder}
use Rattle.dht_brick.specs.declared.opens.Registration.{Registration}
use Rattle.dht_section.specs.Disk.{Disk, file_of_main, file_in, slot_at, name_at, file_at, dir_at, range_of, holder_of}
use Rattle.dht_section.specs.Truth.{plain}
use Rattle.dht_section.specs.Early.{Early, IsPlain, IsUnmoved}
use Rattle.dht_section.specs.Invariant.{Used}
use Rattle.dht_section.specs.Views.{visible, core}
use Rattle.dht_section.proofs.EarlyLaws.{core_file, core_folder}
use Rattle.dht_invariant.proofs.LayoutLaws.{layout_same, planned_same}

-- ---- a slot without its linkto

file_visible : (m : Option Main) → file_of_main m ≡ file_of_main (visible m)
file_visible None = refl
file_visible (Some (Dir g)) = refl
file_visible (Some (File f over)) = refl
file_visible (Some (Linkto value)) = refl

-- a name is a file's by its core
pub file_core : (p : Slot) → file_in p ≡ file_in (core p)
file_core p = file_visible p.main

-- a slot has no linkto
abbrev pub HasNone : Slot → Type 0
HasNone p = p ≡ core p

-- a slot is plain by its core
pub plain_as : (p q : Slot) → core q ≡ core p → IsPlain p → IsPlain q
plain_as p q same (inl e) = inl (same ∙ e)
plain_as p q same (inr (inl e)) = inr (inl (e.0, core_file q e.0 (same ∙ ap core e.1)))
plain_as p q same (inr (inr e)) = inr (inr (e.0, core_folder q e.0 (same ∙ ap core e.1)))

-- ---- what holds for now stays

-- in the same run and with the same weights, no brick has
-- another record of a directory, or more registrations
pub record SameDirs (d e : Disk) (s t : History) : Type 0 where
  pub count : e.count ≡ d.count
  pub run : t.run ≡ s.run
  pub weights : t.weights ≡ s.weights
  pub dirs : (b : ℕ) (g : Gfid) → dir_at e b g ≡ dir_at d b g
  pub unopened : (b : ℕ) (r : Registration)
      → contains_key (d.brick b).opens.registered r ≡ false → contains_key (e.brick b).opens.registered r ≡ false

module _ (d e : Disk) (s t : History) (m : SameDirs d e s t) (k : Early d s) where
  within : (b : ℕ) → b < e.count → b < d.count
  within b l = subst (λ (n : ℕ). b < n) m.count l

  holders_same : (x : Entry) → holder_of e x ≡ holder_of d x
  holders_same x = ap (λ ranges. holder ranges (dm x.1)) (layout_same d e x.0 m.count (λ b. ap range_of (m.dirs b x.0)))

  -- it is left to show what slots and files' records became, that in the first run no
  -- slot gets a linkto, that a name that is new is on its holder, and what is used
  pub early_on : ((x : Entry) (b : ℕ) → b < d.count → IsPlain (slot_at e b x)) → ((x : Entry) (b : ℕ) → s.run ≡ 1 → b < d.count → HasNone (slot_at e b x)) → ((f : Gfid) (b : ℕ) (r : Record) → b < d.count → file_at e b f ≡ Some r → IsUnmoved r) → ((x : Entry) (b : ℕ) (f : Gfid) → b < d.count → name_at e b x ≡ Some f → (name_at d b x ≡ Some f) ⊎ (holder_of d x ≡ Some b)) → ((g : Gfid) → Used e t.tree g → Used d s.tree g ⊎ (run_of g ≤ s.run)) → Early e t
  early_on plain none unmoved named used = record {
    plain = λ x b l. plain x b (within b l);
    unmoved = λ f b r l. unmoved f b r (within b l);
    unopened = λ b r l. m.unopened b r (k.unopened b r (within b l));
    planned = λ g first. planned_same d e g s.weights t.weights m.count m.weights (λ b. m.dirs b g) (k.planned g (sym m.run ∙ first));
    held = λ x b f first l h. holders_same x ∙ elim (named x b f (within b l) h) [
      | inl q ↦ k.held x b f (sym m.run ∙ first) (within b l) q
      | inr q ↦ q
    ];
    unlinked = λ x b first l. none x b (sym m.run ∙ first) (within b l);
    earlier = λ g u. subst (λ (n : ℕ). run_of g ≤ n) (sym m.run) (elim (used g u) [
      | inl q ↦ k.earlier g q
      | inr q ↦ q
    ]);
  }
