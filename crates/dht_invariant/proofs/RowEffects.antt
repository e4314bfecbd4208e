-- What a permitted request that was served did to its brick: nothing but with locks; it
-- made a file; or it is one that takes something away, or is of a linkto or of a directory.
use Rattle.std.proofs.Common.{◌≡◌, ℕ, Bool, true, false, List, refl, sym, ap}
use Rattle.std.specs.Prelude.{Option, Some, None, is_some, is_none, ◌&&◌}
use Rattle.dht_types.specs.declared.identifiers.Gfid.{Gfid}
use Rattle.dht_types.specs.declared.identifiers.ClientNo.{ClientNo}
use Rattle.dht_types.specs.declared.identifiers.CallNo.{CallNo}
use Rattle.dht_types.specs.declared.calls.TreeStep.TheVariants.{AddFile}
use Rattle.dht_types.specs.declared.stored.DirRecord.{DirRecord}
use Rattle.dht_brick.specs.Contents.{Contents, Store, slot, dir, file}
use Rattle.dht_brick.specs.LockRows.{lock_row}
use Rattle.dht_brick.specs.NameRows.{name_row, when, on_slot}
use Rattle.dht_brick.specs.Bricks.{ServesOrFails}
use Rattle.dht_brick.specs.Outcome.{Outcome, Do, Refuse, Await, in_dir, within, left_by}
use Rattle.dht_brick.specs.Parts.{is_bare}
use Rattle.dht_brick.specs.Rows.{row, after, with_store, with_locks}
use Rattle.dht_brick.specs.declared.requests.FileRequest.TheVariants.{Drop}
use Rattle.dht_brick.specs.declared.requests.NameRequest.{NameRequest}
use Rattle.dht_brick.specs.declared.requests.NameRequest.TheVariants.{Look, Dirinfo, SetLayout, MakeDir, DropDir, Create, MakeLinkto, DropLinkto, Unlink}
use Rattle.dht_brick.specs.declared.requests.Request.{Request}
use Rattle.dht_brick.specs.declared.requests.Request.TheVariants.{Lock, Unlock, Seal, OnNames, OnFile}
use Rattle.dht_brick.specs.declared.replies.Given.{Given}
use Rattle.dht_brick.specs.declared.replies.Reply.{Reply}
use Rattle.dht_brick.specs.declared.replies.Reply.TheVariants.{Ok as Carried, Refused as Declined, Wait, Down, Failed, NoMemory}
use Rattle.dht_section.specs.Moves.{step_of}
use Rattle.dht_section.specs.Permits.{May}
use Rattle.dht_section.specs.Scene.{Scene}
use Rattle.dht_invariant.specs.Laws.{IsOfLinkto, IsRemoval, IsOfDir}
use Rattle.dht_invariant.proofs.ContentsLaws.{added, new_slot}
use Rattle.dht_invariant.proofs.ServedLaws.{within_keeps, served_keeps}

-- a request that changes no name
abbrev IsQuietName : NameRequest → Type 0
IsQuietName (Look d n) = Unit {0}
IsQuietName (Dirinfo d) = Unit {0}
IsQuietName q = ⊥

abbrev IsQuietRequest : Request → Type 0
IsQuietRequest (Lock key mode) = Unit {0}
IsQuietRequest (Unlock key) = Unit {0}
IsQuietRequest (OnNames q) = IsQuietName q
IsQuietRequest q = ⊥

-- what only shows something of a directory leaves the store
shown_keeps :
    (o : Option DirRecord) (given : DirRecord → Given) (c : Contents)
    → (left_by (within (with_store c) (in_dir o (λ r. Do (given r) c.store))) c).store ≡ c.store
shown_keeps None given c = refl
shown_keeps (Some r) given c = refl

after_store :
    (bricks : List (List ℕ)) (client : ClientNo) (call : CallNo) (q : Request) (c : Contents)
    → IsQuietRequest q → (after bricks client call q c).store ≡ c.store
after_store bricks client call (Lock key mode) c h = within_keeps (λ (x : Contents). x.store) (with_locks c) (lock_row client key mode c.locks) c (λ l. refl)
after_store bricks client call (Unlock key) c h = refl
after_store bricks client call (OnNames (Look d n)) c h = shown_keeps (dir c.store d) _ c
after_store bricks client call (OnNames (Dirinfo d)) c h = shown_keeps (dir c.store d) _ c
after_store bricks client call q c h = absurd h

-- and does no step
no_step : (b : ℕ) (q : Request) (r : Reply) → IsQuietRequest q → step_of b q r ≡ None
no_step b (Lock key mode) (Carried given) h = refl
no_step b (Unlock key) (Carried given) h = refl
no_step b (OnNames (Look d n)) (Carried given) h = refl
no_step b (OnNames (Dirinfo d)) (Carried given) h = refl
no_step b q (Carried given) h = absurd h
no_step b q r h = refl

-- a request did no step of the tree, and changed nothing but locks
pub record Quiet (b : ℕ) (q : Request) (r : Reply) (c new : Contents) : Type 0 where
  pub step : step_of b q r ≡ None
  pub store : new.store ≡ c.store
  pub opens : new.opens ≡ c.opens

abbrev has_dir : Store → Gfid → Bool
has_dir s g = is_some (dir s g)

-- a request made a file
pub record Adds (b : ℕ) (q : Request) (r : Reply) (c new : Contents) : Type 0 where
  pub dir : Gfid
  pub name : List ℕ
  pub file : Gfid
  pub request : q ≡ OnNames (Create dir name file)
  pub step : step_of b q r ≡ Some (AddFile dir name file)
  pub housed : has_dir c.store dir ≡ true
  pub store : new.store ≡ added c.store (dir, name) file
  pub opens : new.opens ≡ c.opens
  pub locks : new.locks ≡ c.locks

-- a request that changes no name leaves who has a file open
after_opens :
    (bricks : List (List ℕ)) (client : ClientNo) (call : CallNo) (q : Request) (c : Contents)
    → IsQuietRequest q → (after bricks client call q c).opens ≡ c.opens
after_opens bricks client call (Lock key mode) c h = within_keeps (λ (x : Contents). x.opens) (with_locks c) (lock_row client key mode c.locks) c (λ l. refl)
after_opens bricks client call (Unlock key) c h = refl
after_opens bricks client call (OnNames q) c h = within_keeps (λ (x : Contents). x.opens) (with_store c) (name_row bricks q c.store) c (λ a. refl)
after_opens bricks client call q c h = absurd h

effect_quiet :
    (bricks : List (List ℕ)) (s : Scene) (at : ℕ) (q : Request) (c : Contents) (r : Reply)
    (new : Contents)
    → IsQuietRequest q → ServesOrFails (row bricks s.who s.mine.number q c) c r new
    → Quiet at q r c new
effect_quiet bricks s at q c r new h v = record {
  step = no_step at q r h;
  store = served_keeps (λ (x : Contents). x.store) (row bricks s.who s.mine.number q c) c r new (after_store bricks s.who s.mine.number q c h) v;
  opens = served_keeps (λ (x : Contents). x.opens) (row bricks s.who s.mine.number q c) c r new (after_opens bricks s.who s.mine.number q c h) v;
}

is_done : Outcome Contents → Bool
is_done (Do given new) = true
is_done (Refuse why) = false
is_done (Await holder) = false

-- what a create comes to, where its directory is there, and its slot and its file are free, or not
abbrev created : Gfid → List ℕ → Gfid → Contents → Option DirRecord → Bool → Outcome Contents
created d n f c o b = within (with_store c) (in_dir o (λ x. on_slot (Create d n f) c.store (d, n) (when b (new_slot c.store (d, n) f))))

created_by :
    (at : ℕ) (d : Gfid) (n : List ℕ) (f : Gfid) (c : Contents) (given : Given) (new : Contents)
    (o : Option DirRecord) (b : Bool)
    → dir c.store d ≡ o → created d n f c o b ≡ Do given new
    → Adds at (OnNames (Create d n f)) (Carried given) c new
unfolding is_done
created_by at d n f c given new None b e v = absurd (let z : false ≡ true = ap is_done v in cc)
created_by at d n f c given new (Some x) false e v = absurd (let z : false ≡ true = ap is_done v in cc)
created_by at d n f c given new (Some x) true e v = record {
  dir = d;
  name = n;
  file = f;
  request = refl;
  step = refl;
  housed = ap is_some e;
  store = ap (λ (y : Outcome Contents). (left_by y c).store) (sym v);
  opens = ap (λ (y : Outcome Contents). (left_by y c).opens) (sym v);
  locks = ap (λ (y : Outcome Contents). (left_by y c).locks) (sym v);
}

unchanged :
    (at : ℕ) (q : Request) (r : Reply) (c new : Contents) → step_of at q r ≡ None → new ≡ c
    → Quiet at q r c new
unchanged at q r c new step e = record { step = step; store = ap (λ (x : Contents). x.store) e; opens = ap (λ (x : Contents). x.opens) e }

-- what a request that was permitted and served did: nothing but with locks; it made a
-- file; or it is one that takes something away, or is of a linkto or of a directory
pub data Effect (at : ℕ) (q : Request) (r : Reply) (c new : Contents) : Type 0 where
  IsQuiet : Quiet at q r c new → Effect at q r c new
  IsCreate : Adds at q r c new → Effect at q r c new
  Removes : IsRemoval q → Effect at q r c new
  TurnsLinkto : (n : NameRequest) → IsOfLinkto n → q ≡ OnNames n → Effect at q r c new
  TurnsDir : IsOfDir q → Effect at q r c new

effect_create :
    (at : ℕ) (d : Gfid) (n : List ℕ) (f : Gfid) (c : Contents) (r : Reply) (new : Contents)
    (o : Option DirRecord) (b : Bool)
    → dir c.store d ≡ o → ServesOrFails (created d n f c o b) c r new
    → Effect at (OnNames (Create d n f)) r c new
effect_create at d n f c (Carried given) new o b e v = IsCreate (created_by at d n f c given new o b e v)
effect_create at d n f c (Declined why) new o b e v = IsQuiet (unchanged at _ _ c new refl v.1)
effect_create at d n f c (Wait holder) new o b e v = IsQuiet (unchanged at _ _ c new refl v.1)
effect_create at d n f c Down new o b e v = IsQuiet (unchanged at _ _ c new refl v)
effect_create at d n f c Failed new o b e v = IsQuiet (unchanged at _ _ c new refl v)
effect_create at d n f c NoMemory new o b e v = IsQuiet (unchanged at _ _ c new refl v)

pub effect :
    (bricks : List (List ℕ)) (s : Scene) (b : ℕ) (q : Request) (c : Contents) (r : Reply)
    (new : Contents)
    → May s b q → ServesOrFails (row bricks s.who s.mine.number q c) c r new → Effect b q r c new
effect bricks s b (Lock key mode) c r new may v = IsQuiet (effect_quiet bricks s b (Lock key mode) c r new tt v)
effect bricks s b (Unlock key) c r new may v = IsQuiet (effect_quiet bricks s b (Unlock key) c r new tt v)
effect bricks s b (OnNames (Look d n)) c r new may v = IsQuiet (effect_quiet bricks s b (OnNames (Look d n)) c r new tt v)
effect bricks s b (OnNames (Dirinfo d)) c r new may v = IsQuiet (effect_quiet bricks s b (OnNames (Dirinfo d)) c r new tt v)
effect bricks s b (OnNames (SetLayout d value)) c r new may v = TurnsDir tt
effect bricks s b (OnNames (MakeDir d n g depth value)) c r new may v = TurnsDir tt
effect bricks s b (OnNames (DropDir d n g)) c r new may v = TurnsDir tt
effect bricks s b (OnNames (Create d n f)) c r new may v = effect_create b d n f c r new (dir c.store d) (is_bare (slot c.store (d, n)) && is_none (file c.store f)) refl v
effect bricks s b (OnNames (MakeLinkto d n value)) c r new may v = TurnsLinkto (MakeLinkto d n value) tt refl
effect bricks s b (OnNames (DropLinkto d n)) c r new may v = TurnsLinkto (DropLinkto d n) tt refl
effect bricks s b (OnNames (Unlink d n f)) c r new may v = Removes tt
effect bricks s b (OnNames q) c r new may v = absurd may.0
effect bricks s b (OnFile (Drop f)) c r new may v = Removes tt
effect bricks s b (OnFile q) c r new may v = absurd may.0
effect bricks s b (Seal f) c r new may v = Removes tt
effect bricks s b q c r new may v = absurd may
