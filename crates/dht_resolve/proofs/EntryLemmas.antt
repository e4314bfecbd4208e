-- A map from the numbers of directories, seen as a cache of layouts.
use Rattle.std.proofs.Common.{◌≡◌, ℕ, ◌+◌, ◌≤◌, ◌<◌, Bool, true, false, cond, List, [], ◌∷◌, ◌++◌, map, length, drop, refl, sym, ap, ◌∙◌, arith, length-append}
use Rattle.std.specs.Prelude.{Option, Some, nat_eq, nat_lt, is_some}
use Rattle.std.specs.Map.{lookup, set_value}
use Rattle.std.proofs.lemmas.Bool.{ltb-true, ltb-false}
use Rattle.std.proofs.lemmas.List.{drop-map, length-map}
use Rattle.std.proofs.lemmas.Map.{length-set_value}
use Rattle.dht_types.specs.Gfid.{same_gfid}
use Rattle.dht_types.specs.declared.identifiers.Gfid.{Gfid}
use Rattle.dht_xattr.specs.declared.range.Range.{Range}
use Rattle.indexmap.specs.IndexMap.{insert_entry}
use Rattle.dht_resolve.specs.Cache.{CachedLayout, IsCache, cached, layout_at, shown, with_room}

map_cond :
    {A B : Type 0} (f : A → B) (b : Bool) (xs ys : List A)
    → map f (cond b xs ys) ≡ cond b (map f xs) (map f ys)
map_cond f true xs ys = refl
map_cond f false xs ys = refl

-- a directory is found by its number
pub lookup_shown :
    (dir : Gfid) (es : List (ℕ × List (Option Range)))
    → lookup (nat_eq dir.0) es ≡ layout_at (map shown es) dir
lookup_shown dir [] = refl
lookup_shown dir (e ∷ es) = ap (cond (nat_eq dir.0 e.0) (Some e.1)) (lookup_shown dir es)

-- and put by it
pub insert_shown :
    (dir : Gfid) (layout : List (Option Range)) (es : List (ℕ × List (Option Range)))
    → map shown (insert_entry nat_eq es dir.0 layout)
    ≡ insert_entry same_gfid (map shown es) dir layout
insert_shown dir layout [] = refl
insert_shown dir layout (e ∷ es) =
    map_cond shown (nat_eq dir.0 e.0) ((e.0, layout) ∷ es) (e ∷ insert_entry nat_eq es dir.0 layout)
    ∙ ap (λ rest. cond (nat_eq dir.0 e.0) (shown (e.0, layout) ∷ map shown es) (shown e ∷ rest)) (insert_shown dir layout es)

module _ {K X : Type 0} (eq : K → K → Bool) (k : K) (v : X) where
  -- an insert sets the value of a key that is there
  pub insert_there : (es : List (K × X)) → is_some (lookup (eq k) es) ≡ true → insert_entry eq es k v ≡ set_value (eq k) es v
  insert_there [] h = cc
  insert_there (e ∷ es) h = by (eq k e.0) h (insert_there es)
    where
      by : (b : Bool) → is_some (cond b (Some e.1) (lookup (eq k) es)) ≡ true → (is_some (lookup (eq k) es) ≡ true → insert_entry eq es k v ≡ set_value (eq k) es v) → cond b ((e.0, v) ∷ es) (e ∷ insert_entry eq es k v) ≡ cond b ((e.0, v) ∷ es) (e ∷ set_value (eq k) es v)
      by true h rest = refl
      by false h rest = ap (λ xs. e ∷ xs) (rest h)

  -- and puts any other last
  pub insert_new : (es : List (K × X)) → is_some (lookup (eq k) es) ≡ false → insert_entry eq es k v ≡ es ++ (k, v) ∷ []
  insert_new [] h = refl
  insert_new (e ∷ es) h = by (eq k e.0) h (insert_new es)
    where
      by : (b : Bool) → is_some (cond b (Some e.1) (lookup (eq k) es)) ≡ false → (is_some (lookup (eq k) es) ≡ false → insert_entry eq es k v ≡ es ++ (k, v) ∷ []) → cond b ((e.0, v) ∷ es) (e ∷ insert_entry eq es k v) ≡ e ∷ (es ++ (k, v) ∷ [])
      by true h rest = cc
      by false h rest = ap (λ xs. e ∷ xs) (rest h)

-- what is to be shown of a list, where there is room in it and where there is none
pub room_cases :
    (P : List CachedLayout → Type 0) (cache : List CachedLayout) → (length cache < 256 → P cache)
    → (256 ≤ length cache → P (drop 1 cache)) → P (with_room cache)
room_cases P cache few many = by (nat_lt (length cache) 256) refl
  where
    by : (b : Bool) → nat_lt (length cache) 256 ≡ b → P (cond b cache (drop 1 cache))
    by true e = few (ltb-true (length cache) 256 e)
    by false e = many (ltb-false (length cache) 256 e)

-- what is to be shown of a put, where the directory is there and where it is not
pub cached_cases :
    (P : List CachedLayout → Type 0) (cache : List CachedLayout) (dir : Gfid)
    (layout : List (Option Range))
    → (is_some (layout_at cache dir) ≡ true → P (set_value (same_gfid dir) cache layout))
    → (is_some (layout_at cache dir) ≡ false → P (with_room cache ++ (dir, layout) ∷ []))
    → P (cached cache dir layout)
cached_cases P cache dir layout there absent = by (is_some (layout_at cache dir)) refl
  where
    by : (b : Bool) → is_some (layout_at cache dir) ≡ b → P (cond b (set_value (same_gfid dir) cache layout) (with_room cache ++ (dir, layout) ∷ []))
    by true e = there e
    by false e = absent e

drop_push :
    {A : Type 0} (xs : List A) (x : A) → 256 ≤ length xs
    → drop 1 (xs ++ x ∷ []) ≡ drop 1 xs ++ x ∷ []
drop_push [] x h = absurd (let n : 256 ≤ 0 = h in omega arith)
drop_push (y ∷ ys) x h = refl

module _ (cache : List CachedLayout) (is : IsCache cache) (dir : Gfid) (layout : List (Option Range)) where
  few : length cache ≤ 256
  few = is.few

  length_new : length (cache ++ (dir, layout) ∷ []) ≡ length cache + 1
  length_new = length-append cache ((dir, layout) ∷ [])

  -- an insert after which there are at most 256 is a put
  pub inserted_few : length (insert_entry same_gfid cache dir layout) ≤ 256 → insert_entry same_gfid cache dir layout ≡ cached cache dir layout
  inserted_few small = cached_cases (λ new. insert_entry same_gfid cache dir layout ≡ new) cache dir layout
      (insert_there same_gfid dir layout cache)
      (λ absent.
      let last = insert_new same_gfid dir layout cache absent in
      last ∙ room_cases (λ room. cache ++ (dir, layout) ∷ [] ≡ room ++ (dir, layout) ∷ []) cache (λ f. refl) (λ full. absurd (omega (arith, full, small, ap length last, length_new))))

  -- and one after which there are more is one once the oldest is gone
  pub inserted_many : 256 < length (insert_entry same_gfid cache dir layout) → drop 1 (insert_entry same_gfid cache dir layout) ≡ cached cache dir layout
  inserted_many big = cached_cases (λ new. drop 1 (insert_entry same_gfid cache dir layout) ≡ new) cache dir layout
      (λ there. absurd (omega (arith, big, few, ap length (insert_there same_gfid dir layout cache there), length-set_value (same_gfid dir) cache layout)))
      (λ absent.
      let last = insert_new same_gfid dir layout cache absent in
      ap (drop 1) last ∙ room_cases (λ room. drop 1 (cache ++ (dir, layout) ∷ []) ≡ room ++ (dir, layout) ∷ []) cache (λ f. absurd (omega (arith, f, big, ap length last, length_new))) (drop_push cache (dir, layout)))

module _ (es new : List (ℕ × List (Option Range))) (dir : Gfid) (layout : List (Option Range)) (is : IsCache (map shown es)) (inserted : new ≡ insert_entry nat_eq es dir.0 layout) where
  seen : map shown new ≡ insert_entry same_gfid (map shown es) dir layout
  seen = ap (map shown) inserted ∙ insert_shown dir layout es

  as_long : length (insert_entry same_gfid (map shown es) dir layout) ≡ length new
  as_long = sym (ap length seen) ∙ length-map new shown

  -- an insert into the map, after which there are at most 256, is a put
  pub put_few : length new ≤ 256 → map shown new ≡ cached (map shown es) dir layout
  put_few small = seen ∙ inserted_few (map shown es) is dir layout (omega (arith, small, as_long))

  -- and one after which there are more is one once the oldest is gone
  pub put_many : 256 < length new → map shown (drop 1 new) ≡ cached (map shown es) dir layout
  put_many big = sym (drop-map shown 1 new) ∙ ap (drop 1) seen ∙ inserted_many (map shown es) is dir layout (omega (arith, big, as_long))
