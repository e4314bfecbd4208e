-- How long what is known of a call that is alone stays so.
use Rattle.std.proofs.Common.{◌≡◌, ◌∙◌, ℕ, ap, inl, inr}
use Rattle.dht_types.specs.Gfid.{Entry}
use Rattle.dht_types.specs.History.{IsAlone}
use Rattle.dht_types.specs.Tree.{Tree}
use Rattle.dht_types.specs.declared.identifiers.Gfid.{Gfid}
use Rattle.dht_brick.specs.Contents.{Store, dir, slot}
use Rattle.dht_section.specs.HealedLaws.{healed_kept, layout_kept, whole_kept}
use Rattle.dht_section.specs.Disk.{dir_at, layout_of, slot_at}
use Rattle.dht_section.specs.Healed.{IsHealed, IsWhole}
use Rattle.dht_section.specs.Rely.{Rely}
use Rattle.dht_section.specs.Scene.{IfAlone, Scene}
use Rattle.dht_section.specs.Whole.{IsWholeOrGone, SeesWhole, ShowedSoFar, StoresTheSame}
use Rattle.dht_section.specs.declared.section.Section.{Section}

-- ---- where nothing changed

pub same_dir :
    (s t : Scene) (b : ℕ) (g : Gfid) → StoresTheSame s t → dir_at t.disk b g ≡ dir_at s.disk b g
same_dir s t b g h = ap (λ (x : Store). dir x g) (h.stores b)

pub same_slot :
    (s t : Scene) (b : ℕ) (e : Entry) → StoresTheSame s t → slot_at t.disk b e ≡ slot_at s.disk b e
same_slot s t b e h = ap (λ (x : Store). slot x e) (h.stores b)

pub same_layout :
    (s t : Scene) (g : Gfid) → StoresTheSame s t → layout_of t.disk g ≡ layout_of s.disk g
same_layout s t g h = layout_kept s.disk t.disk g h.count (λ b. same_dir s t b g h)

pub whole_stays : (s t : Scene) (g : Gfid) → StoresTheSame s t → IsWhole s.disk g → IsWhole t.disk g
whole_stays s t g h = whole_kept s.disk t.disk g h.count (λ b. same_dir s t b g h)

pub healed_stays :
    (s t : Scene) (g : Gfid) → StoresTheSame s t → IsHealed s.disk s.history.tree g
    → IsHealed t.disk t.history.tree g
healed_stays s t g h = healed_kept s.disk t.disk s.history.tree t.history.tree g h.count (λ b x. same_dir s t b x h) h.tree

pub whole_or_gone_stays :
    (s t : Scene) (g : Gfid) (Shown : Type 0) → StoresTheSame s t → IsWholeOrGone g Shown s
    → IsWholeOrGone g Shown t
whole_or_gone_stays s t g Shown h k = elim k [
  | inl q ↦ inl (whole_stays s t g h q.0, q.1)
  | inr q ↦ inr (ap (λ (p : Tree). p.dirs g) h.tree ∙ q)
]

-- ---- while a call is alone

-- others change nothing
pub alone_same : (s t : Scene) → Rely s t → IsAlone t.history t.mine → StoresTheSame s t
alone_same s t o now =
    let q = o.still now in
    record { count = o.count; weights = o.weights; tree = q.tree; stores = q.stores }

-- so what hangs on the tree and the bricks' stores alone stays
pub if_alone_stable :
    (P : Scene → Type 0) → ((s t : Scene) → StoresTheSame s t → P s → P t) → (s t : Scene)
    → IfAlone P s → Rely s t → IfAlone P t
if_alone_stable P stays s t h o now = stays s t (alone_same s t o now) (h (o.still now).before)

pub sees_whole_stable :
    (g : Gfid) (m : Section) (s t : Scene) → SeesWhole g m s → Rely s t → SeesWhole g m t
sees_whole_stable g m = if_alone_stable (IsWholeOrGone g (ShowedSoFar g m)) (λ s t. whole_or_gone_stays s t g (ShowedSoFar g m))
