-- What the last line tells of a call that was alone: where it is
-- no answer, and no answer ok or of a file, it tells nothing.
use Rattle.std.proofs.Common.{◌≡◌, ◌≤◌, ◌+◌, Bool, true, false, List, [], ◌∷◌, ◌++◌, refl, sym, ap, ◌∙◌, subst, append_assoc, length, arith}
use Rattle.std.specs.Prelude.{Option, Some, None}
use Rattle.dht_types.specs.Gfid.{Entry}
use Rattle.dht_types.specs.History.{History, PendingCall, IsAlone, history_of, start, with_lines}
use Rattle.dht_types.proofs.HistoryLaws.{lines_append}
use Rattle.dht_types.specs.declared.calls.Answer.{Answer}
use Rattle.dht_types.specs.declared.calls.Answer.TheVariants.{Done, File}
use Rattle.dht_types.specs.declared.calls.Call.TheVariants.{Heal}
use Rattle.dht_types.specs.declared.calls.TreeStep.{TreeStep}
use Rattle.dht_types.specs.declared.identifiers.CallNo.{CallNo}
use Rattle.dht_types.specs.declared.identifiers.ClientNo.{ClientNo}
use Rattle.dht_types.specs.declared.identifiers.Gfid.{Gfid}
use Rattle.dht_types.specs.declared.lines.Line.{Line}
use Rattle.dht_types.specs.declared.lines.Line.TheVariants.{Answered, Tree}
use Rattle.dht_brick.specs.declared.replies.Reply.{Reply}
use Rattle.dht_brick.specs.declared.replies.Reply.TheVariants.{Wait}
use Rattle.dht_section.specs.Disk.{Disk}
use Rattle.dht_section.specs.FirstLookup.{IsFirstLookup}
use Rattle.dht_section.specs.Healed.{IsHealed}
use Rattle.dht_section.specs.Moves.{step_of}
use Rattle.dht_section.specs.Truth.{Placed}
use Rattle.dht_section.specs.declared.machine.Ask.{Ask}
use Rattle.dht_section.specs.declared.machine.Finish.{Finish}
use Rattle.dht_world.specs.Lines.{tree_lines, step_line, request_lines}
use Rattle.dht_world.specs.World.{EndsAlone, EndsWell}

none_ends : {A : Type 0} (xs : List A) (x : A) → [] ≡ xs ++ x ∷ [] → ⊥
none_ends [] x e = cc
none_ends (y ∷ xs) x e = cc

-- the last element of a list, and those before it
same_last :
    {A : Type 0} (xs ys : List A) (x y : A) → xs ++ x ∷ [] ≡ ys ++ y ∷ [] → (xs ≡ ys) × (x ≡ y)
same_last [] [] x y e = (refl, cc)
same_last [] (b ∷ ys) x y e = absurd (none_ends ys y (let z : [] ≡ ys ++ y ∷ [] = cc in z))
same_last (a ∷ xs) [] x y e = absurd (none_ends xs x (let z : xs ++ x ∷ [] ≡ [] = cc in sym z))
same_last (a ∷ xs) (b ∷ ys) x y e =
    let first : a ≡ b = cc in
    let rest = same_last xs ys x y (let z : xs ++ x ∷ [] ≡ ys ++ y ∷ [] = cc in z) in
    ((λ i. first i ∷ rest.0 i), rest.1)

-- the answer tells of a call that was alone: it is ok, or a file
abbrev pub tells_end : Answer → Bool
tells_end Done = true
tells_end (File f) = true
tells_end a = false

abbrev pub is_end : Line → Bool
is_end (Answered k c at a) = tells_end a
is_end line = false

-- after another line nothing is told
not_ended :
    (past : List Line) (x : Line) (r : PendingCall) (a : Answer) → is_end x ≡ false
    → tells_end a ≡ true → EndsAlone (past ++ x ∷ []) r a → ⊥
not_ended past x r a e k h =
    let last = (same_last past h.before x (Answered h.number h.client h.point a) h.all).1 in
    let z : false ≡ true = sym e ∙ (ap is_end last ∙ k) in
    cc

pub no_end_none : (d : Disk) → EndsWell d []
no_end_none d = record {
  healed = λ g r h heals. absurd (none_ends h.before (Answered h.number h.client h.point Done) h.all);
  found = λ e f r h looks first placed. absurd (none_ends h.before (Answered h.number h.client h.point (File f)) h.all);
}

pub no_end :
    (d : Disk) (past : List Line) (x : Line) → is_end x ≡ false → EndsWell d (past ++ x ∷ [])
no_end d past x e = record {
  healed = λ g r h heals. absurd (not_ended past x r Done e refl h);
  found = λ y f r h looks first placed. absurd (not_ended past x r (File f) e refl h);
}

-- the same of two lines
pub no_end_two :
    (d : Disk) (past : List Line) (x y : Line) → is_end y ≡ false → EndsWell d (past ++ x ∷ y ∷ [])
no_end_two d past x y e = subst (EndsWell d) (append_assoc past (x ∷ []) (y ∷ [])) (no_end d (past ++ x ∷ []) y e)

no_end_under :
    (d : Disk) (past : List Line) (x : Line) (k : CallNo) (o : Option TreeStep) → is_end x ≡ false
    → EndsWell d (past ++ x ∷ tree_lines k o)
no_end_under d past x k None e = no_end d past x e
no_end_under d past x k (Some step) e = no_end_two d past x (Tree k step) refl

-- a request that was answered, after which its call goes on
pub no_end_request :
    (d : Disk) (past : List Line) (k : CallNo) (c : ClientNo) (a : Ask) (r : Reply)
    → EndsWell d (past ++ request_lines k c a r)
no_end_request d past k c a (Wait holder) = no_end d past _ refl
no_end_request d past k c a r = no_end_under d past (step_line k c a r) k (step_of a.brick.0 a.request r) refl

same_answer :
    (j k : CallNo) (b c : ClientNo) (p q : Option _) (x y : Answer)
    → Answered j b p x ≡ Answered k c q y → (b ≡ c) × (x ≡ y)
same_answer j k b c p q x y e = (cc, cc)

-- ---- a call answers

module _ (d : Disk) (past xs : List Line) (k : CallNo) (c : ClientNo) (f : Finish) (mine : PendingCall) (runs : (with_lines (history_of past) xs).pending c.0 ≡ Some mine) where
  abbrev t : History
  t = with_lines (history_of past) xs

  abbrev end : Line
  end = Answered k c f.at f.answer

  abbrev all : List Line
  all = past ++ (xs ++ end ∷ [])

  ended : history_of all ≡ with_lines t (end ∷ [])
  ended = lines_append start past (xs ++ end ∷ []) ∙ lines_append (history_of past) xs (end ∷ [])

  -- the answer that is told is this, and the call is the one that answers, and was alone
  record IsMine (r : PendingCall) (a : Answer) : Type 0 where
    pub answer : f.answer ≡ a
    pub call : r ≡ mine
    pub alone : IsAlone t mine

  is_mine : (r : PendingCall) (a : Answer) → EndsAlone all r a → IsMine r a
  is_mine r a h =
      let both = same_last (past ++ xs) h.before end (Answered h.number h.client h.point a) (append_assoc past xs (end ∷ []) ∙ h.all) in
      let told = same_answer k h.number c h.client f.at h.point f.answer a both.1 in
      let then : history_of h.before ≡ t = ap history_of (sym both.0) ∙ lines_append start past xs in
      let calls : t.pending c.0 ≡ Some r =
      ap (λ (who : ClientNo). t.pending who.0) told.0 ∙ (ap (λ (s : History). s.pending h.client.0) (sym then) ∙ h.runs) in
      let same : r ≡ mine = (let z : Some r ≡ Some mine = sym calls ∙ runs in cc) in
      record {
        answer = told.1;
        call = same;
        alone = subst (IsAlone t) same (subst (λ (s : History). IsAlone s r) then h.alone);
      }

  -- where it was a heal that was alone, or a first lookup, what it left is told
  pub end_answered : ((g : Gfid) → mine.call ≡ Heal g → f.answer ≡ Done → IsAlone t mine → IsHealed d t.tree g)
      → ((e : Entry) (g : Gfid) → IsFirstLookup t mine e → f.answer ≡ File g → Placed d e → mine.steps ≤ length t.weights + 1)
      → EndsWell d all
  end_answered whole soon = record {
    healed = λ g r h heals.
        let it = is_mine r Done h in
        subst (λ u. IsHealed d u g) (sym (ap (λ (s : History). s.tree) ended))
        (whole g (ap (λ (q : PendingCall). q.call) (sym it.call) ∙ heals) it.answer it.alone);
    found = λ e g r h looks first placed.
        let it = is_mine r (File g) h in
        let same = ap (λ (q : PendingCall). q.call) (sym it.call) in
        let is_first = ap (λ (q : PendingCall). q.is_first) (sym it.call) in
        let steps : r.steps ≡ mine.steps = ap (λ (q : PendingCall). q.steps) it.call in
        let bricks : length (history_of all).weights ≡ length t.weights = ap (λ (s : History). length s.weights) ended in
        let bound = soon e g (record { looks_up = same ∙ looks; first = is_first ∙ first; alone = it.alone }) it.answer placed in
        omega arith;
  }
