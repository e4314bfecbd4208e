-- What a put makes of a cache of layouts.
use Rattle.std.proofs.Common.{◌≡◌, ◌≢◌, ◌≤◌, ◌⊎◌, inl, inr, Bool, true, false, cond, List, [], ◌∷◌, ◌++◌, length, drop, refl, sym, ap, subst, ◌∙◌, arith, length-append, length-drop}
use Rattle.std.specs.Prelude.{Option, Some, None, is_some}
use Rattle.std.specs.Cmp.{IsEquivalence}
use Rattle.std.specs.List.{IsDistinct, AllByRecursion}
use Rattle.std.specs.Map.{keys_of, lookup}
use Rattle.std.proofs.lemmas.Bool.{false_from_ne_true}
use Rattle.std.proofs.lemmas.Cmp.{nat_eq_equiv, on_equiv}
use Rattle.std.proofs.lemmas.List.{map-append}
use Rattle.std.proofs.lemmas.Map.{keys-set_value, length-set_value, lookup-set_value, lookup-none}
use Rattle.std.proofs.lemmas.Map.Keys.{IsDistinct-head, IsDistinct-tail, IsDistinct-push}
use Rattle.std.proofs.lemmas.Map.Made.{is_some-lookup}
use Rattle.dht_types.specs.Gfid.{same_gfid}
use Rattle.dht_types.specs.declared.identifiers.Gfid.{Gfid}
use Rattle.dht_types.proofs.PutLaws.{exact_gfid}
use Rattle.dht_xattr.specs.declared.range.Range.{Range}
use Rattle.dht_resolve.specs.Cache.{CachedLayout, GivesWay, IsCache, cached, layout_at, with_room}
use Rattle.dht_resolve.proofs.EntryLemmas.{cached_cases, room_cases}

-- equality of directories is an equivalence
pub gfid_equiv : IsEquivalence same_gfid
gfid_equiv = on_equiv (λ (g : Gfid). g.0) nat_eq_equiv

none_of : {A : Type 0} (o : Option A) → is_some o ≡ false → o ≡ None
none_of None h = refl
none_of (Some x) h = cc

apart : (a b : Gfid) → a ≢ b → same_gfid a b ≡ false
apart a b ne = false_from_ne_true (same_gfid a b) (λ h. ne ((exact_gfid a b).0 h))

-- what is found behind a list in which nothing is
lookup_last :
    {K X : Type 0} (test : K → Bool) (es : List (K × X)) (k : K) (v : X)
    → is_some (lookup test es) ≡ false → test k ≡ true → lookup test (es ++ (k, v) ∷ []) ≡ Some v
lookup_last test [] k v h t = ap (λ b. cond b (Some v) None) t
lookup_last test (e ∷ es) k v h t = by (test e.0) h (λ n. lookup_last test es k v n t)
  where
    by : (b : Bool) → is_some (cond b (Some e.1) (lookup test es)) ≡ false → (is_some (lookup test es) ≡ false → lookup test (es ++ (k, v) ∷ []) ≡ Some v) → cond b (Some e.1) (lookup test (es ++ (k, v) ∷ [])) ≡ Some v
    by true h rest = cc
    by false h rest = rest h

-- a key that does not pass changes no search
lookup_before :
    {K X : Type 0} (test : K → Bool) (es : List (K × X)) (k : K) (v : X) → test k ≡ false
    → lookup test (es ++ (k, v) ∷ []) ≡ lookup test es
lookup_before test [] k v t = ap (λ b. cond b (Some v) None) t
lookup_before test (e ∷ es) k v t = ap (cond (test e.0) (Some e.1)) (lookup_before test es k v t)

-- what is not in a list is not behind its first entry
absent_behind :
    {K X : Type 0} (test : K → Bool) (es : List (K × X)) → is_some (lookup test es) ≡ false
    → is_some (lookup test (drop 1 es)) ≡ false
absent_behind test [] h = h
absent_behind test (e ∷ es) h = by (test e.0) h
  where
    by : (b : Bool) → is_some (cond b (Some e.1) (lookup test es)) ≡ false → is_some (lookup test es) ≡ false
    by true h = cc
    by false h = h

distinct_behind :
    (es : List CachedLayout) → IsDistinct same_gfid (keys_of es)
    → IsDistinct same_gfid (keys_of (drop 1 es))
distinct_behind [] h = h
distinct_behind (e ∷ es) h = IsDistinct-tail same_gfid e.0 (keys_of es) h

module _ (cache : List CachedLayout) (dir : Gfid) (layout : List (Option Range)) (is : IsCache cache) where
  absent_room : is_some (layout_at cache dir) ≡ false → is_some (layout_at (with_room cache) dir) ≡ false
  absent_room absent = room_cases (λ room. is_some (layout_at room dir) ≡ false) cache (λ f. absent) (λ full. absent_behind (same_gfid dir) cache absent)

  -- the directory has the layout
  pub found : layout_at (cached cache dir layout) dir ≡ Some layout
  found = cached_cases (λ new. layout_at new dir ≡ Some layout) cache dir layout
      (λ there. lookup-set_value gfid_equiv (same_gfid dir) (λ x y. gfid_equiv.congr dir x y) dir layout cache there ∙ ap (λ b. cond b (Some layout) (layout_at cache dir)) (gfid_equiv.refl dir))
      (λ absent. lookup_last (same_gfid dir) (with_room cache) dir layout (absent_room absent) (gfid_equiv.refl dir))

  -- a cache stays one
  pub cached_is_cache : IsCache (cached cache dir layout)
  cached_is_cache = cached_cases IsCache cache dir layout
      (λ there. record {
        few = let few = is.few in omega (arith, few, length-set_value (same_gfid dir) cache layout);
        once = subst (IsDistinct same_gfid) (sym (keys-set_value (same_gfid dir) cache layout)) is.once;
      })
      (λ absent. record {
        few = room_cases (λ room. length (room ++ (dir, layout) ∷ []) ≤ 256) cache
            (λ f. omega (arith, f, length-append cache ((dir, layout) ∷ [])))
            (λ full. let few = is.few in omega (arith, few, full, length-append (drop 1 cache) ((dir, layout) ∷ []), length-drop 1 cache));
        once = subst (IsDistinct same_gfid) (sym (map-append (λ (e : CachedLayout). e.0) (with_room cache) ((dir, layout) ∷ [])))
            (IsDistinct-push gfid_equiv (keys_of (with_room cache)) dir
            (room_cases (λ room. IsDistinct same_gfid (keys_of room)) cache (λ f. is.once) (λ full. distinct_behind cache is.once))
            (sym (is_some-lookup (same_gfid dir) (with_room cache)) ∙ absent_room absent));
      })

-- what holds of each key holds of the key of each entry
each_key :
    {K X : Type 0} (P : K → Type 0) (es : List (K × X)) → AllByRecursion P (keys_of es)
    → AllByRecursion (λ e. P e.0) es
each_key P [] h = tt
each_key P (e ∷ es) h = (h.0, each_key P es h.1)

-- the oldest of 256 is the one that gives way
gives_way :
    (e : CachedLayout) (es : List CachedLayout) (dir : Gfid) (layout : List (Option Range))
    → IsCache (e ∷ es) → 256 ≤ length (e ∷ es) → is_some (layout_at (e ∷ es) dir) ≡ false
    → same_gfid e.0 dir ≡ false → GivesWay (e ∷ es) dir e.0 (es ++ (dir, layout) ∷ [])
gives_way e es dir layout is full absent ne = record {
  full = let few = is.few in omega (arith, few, full);
  absent = none_of (layout_at (e ∷ es) dir) absent;
  oldest = refl;
  gone = lookup_before (same_gfid e.0) es dir layout ne ∙ lookup-none (same_gfid e.0) es (each_key (λ k. same_gfid e.0 k ≡ false) es (IsDistinct-head same_gfid e.0 (keys_of es) is.once));
}

module _ (dir : Gfid) (layout : List (Option Range)) (other : Gfid) (ne : other ≢ dir) where
  -- an other directory, where the oldest makes room
  others_full : (cache : List CachedLayout) → IsCache cache → 256 ≤ length cache → is_some (layout_at cache dir) ≡ false → (layout_at (drop 1 cache ++ (dir, layout) ∷ []) other ≡ layout_at cache other) ⊎ GivesWay cache dir other (drop 1 cache ++ (dir, layout) ∷ [])
  others_full [] is full absent = absurd (let n : 256 ≤ 0 = full in omega arith)
  others_full (e ∷ es) is full absent = by (same_gfid other e.0) refl
    where
      by : (b : Bool) → same_gfid other e.0 ≡ b → (layout_at (es ++ (dir, layout) ∷ []) other ≡ layout_at (e ∷ es) other) ⊎ GivesWay (e ∷ es) dir other (es ++ (dir, layout) ∷ [])
      by true h = inr (let same = (exact_gfid other e.0).0 h in
          subst (λ o. GivesWay (e ∷ es) dir o (es ++ (dir, layout) ∷ [])) (sym same) (gives_way e es dir layout is full absent (ap (λ o. same_gfid o dir) (sym same) ∙ apart other dir ne)))
      by false h = inl (lookup_before (same_gfid other) es dir layout (apart other dir ne) ∙ ap (λ b. cond b (Some e.1) (layout_at es other)) (sym h))

  -- every other directory has what it had, or gave way
  pub others : (cache : List CachedLayout) → IsCache cache → (layout_at (cached cache dir layout) other ≡ layout_at cache other) ⊎ GivesWay cache dir other (cached cache dir layout)
  others cache is = cached_cases (λ new. (layout_at new other ≡ layout_at cache other) ⊎ GivesWay cache dir other new) cache dir layout
      (λ there. inl (lookup-set_value gfid_equiv (same_gfid dir) (λ x y. gfid_equiv.congr dir x y) other layout cache there ∙ ap (λ b. cond b (Some layout) (layout_at cache other)) (gfid_equiv.symm dir other ∙ apart other dir ne)))
      (λ absent. room_cases (λ room. (layout_at (room ++ (dir, layout) ∷ []) other ≡ layout_at cache other) ⊎ GivesWay cache dir other (room ++ (dir, layout) ∷ [])) cache
      (λ f. inl (lookup_before (same_gfid other) cache dir layout (apart other dir ne)))
      (λ full. others_full cache is full absent))
