-- What is left where the bytes of a record were taken out, changed, and put back.
use Rattle.std.proofs.Common.{◌≡◌, ℕ, true, false, List, [], ◌∷◌, refl, sym, ap, subst, ◌∙◌, arith}
use Rattle.std.specs.Prelude.{Option, Some, None, IfSome, Result, Ok, Err, OnOk, OnErr, unwrap_or, length, ◌==◌}
use Rattle.std.proofs.lemmas.Bool.Decides.{Decides-eqb}
use Rattle.std.specs.FinMap.{get, insert}
use Rattle.dht_types.specs.Content.{written}
use Rattle.dht_types.specs.declared.identifiers.Gfid.{Gfid}
use Rattle.dht_types.specs.declared.identifiers.BrickNo.{BrickNo}
use Rattle.dht_types.specs.declared.stored.Record.{Record}
use Rattle.dht_types.specs.declared.stored.Record.TheVariants.{Live, Moving, Standby as Copied, Forward}
use Rattle.dht_types.specs.declared.stored.StandbyRecord.{StandbyRecord}
use Rattle.dht_brick.specs.Contents.{Tables, Store, Files, store_of}
use Rattle.dht_brick.specs.FileRows.{saved, on_bytes, on_standby, copy_write, copied_in}
use Rattle.dht_brick.specs.Looks.{bytes_of}
use Rattle.dht_brick.specs.Outcome.{Outcome, Do, Serves, unless}
use Rattle.dht_brick.specs.declared.replies.Given.TheVariants.{Nothing}
use Rattle.dht_brick.specs.declared.replies.Reply.{Reply}
use Rattle.dht_brick.specs.declared.replies.Reply.TheVariants as reply
use Rattle.dht_brick.specs.declared.replies.Why.TheVariants.{Dirty}
use Rattle.dht_files.specs.Headers.{header_of, record_at, record_of}
use Rattle.dht_files.specs.declared.writes.Header.{Header}
use Rattle.dht_files.proofs.RecordLemmas.{insert_same}

same_header : (g h : Header) → Some g ≡ Some h → g ≡ h
same_header g h e = ap (λ o. unwrap_or o g) e

-- a file that is here has the record of its header and its bytes
here :
    (o : Option Record) (h : Header) (taken : List ℕ) → header_of o ≡ Some h
    → IfSome o (λ r. taken ≡ bytes_of r) → o ≡ Some (record_of h taken)
here None h taken e i = cc
here (Some (Live hop b)) h taken e i =
    let g : Header = record { hop = hop; dest = None } in
    ap (λ x. Some (Live hop x)) (sym i) ∙ ap (λ x. Some (record_of x taken)) (same_header g h e)
here (Some (Moving hop dest b)) h taken e i =
    let g : Header = record { hop = hop; dest = Some dest } in
    ap (λ x. Some (Moving hop dest x)) (sym i) ∙ ap (λ x. Some (record_of x taken)) (same_header g h e)
here (Some (Copied c)) h taken e i = cc
here (Some (Forward hop brick)) h taken e i = cc

on_header :
    (hop : ℕ) (dest : Option BrickNo) (bytes : List ℕ) (s : Store) (f : Gfid)
    (change : List ℕ → List ℕ)
    → on_bytes (Some (record_at hop dest bytes)) s f change
    ≡ saved s f (record_at hop dest (change bytes))
on_header hop None bytes s f change = refl
on_header hop (Some dest) bytes s f change = refl

-- the files' bytes were taken out of `held`, and what
-- became of them was put back; w says whether they changed
pub in_place :
    (t : Tables) (old held new : Files) (f : Gfid) (h : Header) (taken bytes : List ℕ)
    (change : List ℕ → List ℕ) {E : Type 0} (w : Result (Unit {0}) E) (r : Reply)
    → header_of (get old f) ≡ Some h → IfSome (get old f) (λ x. taken ≡ bytes_of x)
    → ((x : Record) → insert held f x ≡ insert old f x) → new ≡ insert held f (record_of h bytes)
    → OnOk w (bytes ≡ change taken) → OnErr w (bytes ≡ taken) → OnOk w (r ≡ reply.Ok Nothing)
    → OnErr w (r ≡ reply.NoMemory)
    → Serves (on_bytes (get old f) (store_of t old) f change) (store_of t old) r (store_of t new)
in_place t old held new f h taken bytes change (Ok x) r head was others put changed same done none =
    let s = store_of t old in
    let left : insert old f (record_of h (change taken)) ≡ new = sym (put ∙ (others (record_of h bytes) ∙ ap (λ b. insert old f (record_of h b)) changed)) in
    subst (λ y. Serves (on_bytes (get old f) s f change) s y (store_of t new)) (sym done)
    (ap (λ o. on_bytes o s f change) (here (get old f) h taken head was) ∙ (on_header h.hop h.dest taken s f change ∙ ap (λ m. Do Nothing (store_of t m)) left))
in_place t old held new f h taken bytes change (Err x) r head was others put changed same done none =
    let s = store_of t old in
    let left : new ≡ old = put ∙ (others (record_of h bytes) ∙ (ap (λ b. insert old f (record_of h b)) same ∙ insert_same old f (record_of h taken) (here (get old f) h taken head was))) in
    subst (λ y. Serves (on_bytes (get old f) s f change) s y (store_of t new)) (sym none) (ap (store_of t) left)

-- ---- copies

-- what a change of a copy that is not dirty comes to
abbrev pub copy_changed : Store → Gfid → (List ℕ → List ℕ) → StandbyRecord → Outcome Store
copy_changed s f change c = unless c.is_dirty Dirty (saved s f (Copied (record c { bytes = change c.bytes })))

clean :
    (c : StandbyRecord) (bytes : List ℕ) → c.is_dirty ≡ false
    → Copied (record c { is_dirty = false; bytes = bytes }) ≡ Copied (record c { bytes = bytes })
clean c bytes e = ap (λ b. Copied (record c { is_dirty = b; bytes = bytes })) (sym e)

-- a copy that is put back as it was leaves everything as it was
pub put_back_clean :
    (old held new : Files) (f : Gfid) (c : StandbyRecord) (taken : List ℕ)
    → get old f ≡ Some (Copied c) → c.is_dirty ≡ false
    → IfSome (get old f) (λ x. taken ≡ bytes_of x)
    → ((x : Record) → insert held f x ≡ insert old f x)
    → new ≡ insert held f (Copied (record c { is_dirty = false; bytes = taken })) → new ≡ old
put_back_clean old held new f c taken there is_clean was others put =
    let bytes : taken ≡ c.bytes = subst (λ o. IfSome o (λ x. taken ≡ bytes_of x)) there was in
    put ∙ (others (Copied (record c { is_dirty = false; bytes = taken })) ∙ (ap (insert old f) (clean c taken is_clean ∙ ap (λ b. Copied (record c { bytes = b })) bytes) ∙ insert_same old f (Copied c) there))

pub copy_in_place :
    (t : Tables) (old held new : Files) (f : Gfid) (c : StandbyRecord) (taken bytes : List ℕ)
    (change : List ℕ → List ℕ) {E : Type 0} (w : Result (Unit {0}) E) (r : Reply)
    → get old f ≡ Some (Copied c) → c.is_dirty ≡ false
    → IfSome (get old f) (λ x. taken ≡ bytes_of x)
    → ((x : Record) → insert held f x ≡ insert old f x)
    → new ≡ insert held f (Copied (record c { is_dirty = false; bytes = bytes }))
    → OnOk w (bytes ≡ change taken) → OnErr w (bytes ≡ taken) → OnOk w (r ≡ reply.Ok Nothing)
    → OnErr w (r ≡ reply.NoMemory)
    → Serves (on_standby (get old f) (copy_changed (store_of t old) f change)) (store_of t old) r
    (store_of t new)
copy_in_place t old held new f c taken bytes change (Ok x) r there is_clean was others put changed same done none =
    let s = store_of t old in
    let held_bytes : taken ≡ c.bytes = subst (λ o. IfSome o (λ y. taken ≡ bytes_of y)) there was in
    let left : insert old f (Copied (record c { bytes = change c.bytes })) ≡ new =
    sym (put ∙ (others (Copied (record c { is_dirty = false; bytes = bytes })) ∙ ap (insert old f) (clean c bytes is_clean ∙ ap (λ b. Copied (record c { bytes = b })) (changed ∙ ap change held_bytes)))) in
    subst (λ y. Serves (on_standby (get old f) (copy_changed s f change)) s y (store_of t new)) (sym done)
    (ap (λ o. on_standby o (copy_changed s f change)) there ∙ (ap (λ b. unless b Dirty (saved s f (Copied (record c { bytes = change c.bytes })))) is_clean ∙ ap (λ m. Do Nothing (store_of t m)) left))
copy_in_place t old held new f c taken bytes change (Err x) r there is_clean was others put changed same done none =
    let s = store_of t old in
    let back : new ≡ old = put_back_clean old held new f c taken there is_clean was others (put ∙ ap (λ b. insert held f (Copied (record c { is_dirty = false; bytes = b }))) same) in
    subst (λ y. Serves (on_standby (get old f) (copy_changed s f change)) s y (store_of t new)) (sym none) (ap (store_of t) back)

-- no bytes change no copy
pub nothing_copied :
    (t : Tables) (old : Files) (f : Gfid) (offset : ℕ) (piece : List ℕ) (c : StandbyRecord)
    → get old f ≡ Some (Copied c) → c.is_dirty ≡ false → (length piece == 0) ≡ true
    → on_standby (get old f) (copy_write (store_of t old) f offset piece)
    ≡ Do Nothing (store_of t old)
nothing_copied t old f offset [] c there is_clean e =
    ap (λ o. on_standby o (copy_write (store_of t old) f offset [])) there
    ∙ (ap (λ b. unless b Dirty (saved (store_of t old) f (Copied c))) is_clean
    ∙ ap (λ m. Do Nothing (store_of t m)) (insert_same old f (Copied c) there))
nothing_copied t old f offset (b ∷ piece) c there is_clean e =
    let none : length (b ∷ piece) ≡ 0 = (Decides-eqb (length (b ∷ piece)) 0).0 e in
    absurd (omega arith)

some_copied_in :
    (bytes : List ℕ) (offset : ℕ) (piece : List ℕ) → (length piece == 0) ≡ false
    → written bytes offset piece ≡ copied_in bytes offset piece
some_copied_in bytes offset [] e = cc
some_copied_in bytes offset (b ∷ piece) e = refl

-- some bytes are written into a copy as into any file
pub some_copied :
    (s : Store) (f : Gfid) (offset : ℕ) (piece : List ℕ) → (length piece == 0) ≡ false
    → (o : Option Record)
    → on_standby o (copy_changed s f (λ b. written b offset piece))
    ≡ on_standby o (copy_write s f offset piece)
some_copied s f offset piece e o = ap (λ (change : List ℕ → List ℕ). on_standby o (copy_changed s f change)) (λ i. λ b. some_copied_in b offset piece e i)
