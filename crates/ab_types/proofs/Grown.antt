-- A table with one entry more, as it is kept and as its callers see it.
use Rattle.std.proofs.Common.{◌≡◌, inl, inr, ℕ, ◌+◌, ◌<◌, ◌≤◌, List, [], ◌∷◌, ◌++◌, length, ◌-◌, take, drop, get_or, slice_get, Contains, Some, sym, ◌∙◌, ap, subst, subst₂, arith, length-append, append-nil}
use Rattle.std.proofs.lemmas.Option.{slice_get_within, get_or_from_slice_get}
use Rattle.std.proofs.lemmas.List.{get_or_push, get_or_default, take-append-drop}
use Rattle.std.proofs.Math.Seq.{take-append_seam, take-append-add}
use Rattle.std.specs.Map.{keys_of}
use Rattle.ab_term.specs.Types.{Ty, prop}
use Rattle.ab_term.specs.Constants.{Constant, constant, names}
use Rattle.ab_types.specs.Entries.{Entry, a_kind, a_type, a_constant, Table, kinds, types, constants, first_entries, IsExtendedBy, FindsOrAdds}
use Rattle.ab_types.specs.Ids.{HoldsKind, HoldsType, HoldsConstant, HoldsView, kind_of, type_of, constant_of, seen_type}
use Rattle.ab_types.specs.Sound.{AreDifferent, IsTable}
use Rattle.ab_types.specs.Columns.{AreWith, PutsOnce}
use Rattle.ab_types.specs.Layout.{Kept, Row, kind_row, type_row, constant_row, rows, entry_of, StandsOn, StandOn, with_rows, table_of, IsKept, AddsRow}
use Rattle.ab_types.specs.declared.ids.KindId.{KindId}
use Rattle.ab_types.specs.declared.ids.TypeId.{TypeId}
use Rattle.ab_types.specs.declared.ids.ConstId.{ConstId}
use Rattle.ab_types.specs.declared.ids.TypeView.{TypeView}
use Rattle.ab_types.specs.declared.columns.Sort.{Sort}
use Rattle.ab_types.specs.declared.columns.Sort.TheVariants.{Kind, Ty as Typ, Constant as Con}
use Rattle.ab_types.proofs.Members.{different_push, different_front}
use Rattle.ab_types.proofs.Entries.{kinds-append, types-append, constants-append, names-append, extended_by_itself, extended_twice, extended_by_one, in_types, from_types, same_seen}
use Rattle.ab_types.proofs.Rows.{with_rows-append, stand-append, stand-front}
use Rattle.ab_types.proofs.Merging.{PutsRow, put_kind, put_type, put_constant}
use Rattle.ab_types.proofs.Kept as kept

-- tables

pub with_kind : (t : Table) (k : List ℕ) → IsTable t → (Contains (kinds t) k → ⊥) → IsTable (t ++ a_kind k ∷ [])
with_kind t k ok new =
    let e : Table = a_kind k ∷ [] in
    record {
      begins = extended_twice first_entries t (t ++ e) ok.begins (extended_by_one t (a_kind k));
      kinds_differ = subst AreDifferent (sym (kinds-append t e)) (different_push (kinds t) k new ok.kinds_differ);
      types_differ = subst AreDifferent (sym (types-append t e ∙ append-nil (types t))) ok.types_differ;
      constants_differ = subst (λ cs. AreDifferent (names cs)) (sym (constants-append t e ∙ append-nil (constants t))) ok.constants_differ;
    }

pub with_type : (t : Table) (A : Ty) → IsTable t → (Contains (types t) A → ⊥) → IsTable (t ++ a_type A ∷ [])
with_type t A ok new =
    let e : Table = a_type A ∷ [] in
    record {
      begins = extended_twice first_entries t (t ++ e) ok.begins (extended_by_one t (a_type A));
      kinds_differ = subst AreDifferent (sym (kinds-append t e ∙ append-nil (kinds t))) ok.kinds_differ;
      types_differ = subst AreDifferent (sym (types-append t e)) (different_push (types t) A new ok.types_differ);
      constants_differ = subst (λ cs. AreDifferent (names cs)) (sym (constants-append t e ∙ append-nil (constants t))) ok.constants_differ;
    }

pub with_constant : (t : Table) (c : Constant) → IsTable t → (Contains (names (constants t)) c.name → ⊥) → IsTable (t ++ a_constant c ∷ [])
with_constant t c ok new =
    let e : Table = a_constant c ∷ [] in
    record {
      begins = extended_twice first_entries t (t ++ e) ok.begins (extended_by_one t (a_constant c));
      kinds_differ = subst AreDifferent (sym (kinds-append t e ∙ append-nil (kinds t))) ok.kinds_differ;
      types_differ = subst AreDifferent (sym (types-append t e ∙ append-nil (types t))) ok.types_differ;
      constants_differ = subst AreDifferent (sym (ap names (constants-append t e) ∙ names-append (constants t) (c ∷ []))) (different_push (names (constants t)) c.name new ok.constants_differ);
    }

pub front_table : (t : Table) (n : ℕ) → IsTable t → length first_entries ≤ n → n ≤ length t → IsTable (take n t)
front_table t n ok low high =
    let back : Table = drop n t in
    let whole : take n t ++ back ≡ t = take-append-drop n t in
    let more : Table = ok.begins.0 in
    let m : ℕ = n - length first_entries in
    let size : n ≡ length first_entries + m = omega (arith, low) in
    record {
      begins = (take m more, ap (λ u. take n u) ok.begins.1 ∙ ap (λ k. take k (first_entries ++ more)) size ∙ take-append-add first_entries more m);
      kinds_differ = different_front (kinds (take n t)) (kinds back) (subst AreDifferent (sym (ap kinds whole) ∙ kinds-append (take n t) back) ok.kinds_differ);
      types_differ = different_front (types (take n t)) (types back) (subst AreDifferent (sym (ap types whole) ∙ types-append (take n t) back) ok.types_differ);
      constants_differ = different_front (names (constants (take n t))) (names (constants back))
          (subst AreDifferent (sym (ap (λ u. names (constants u)) whole) ∙ ap names (constants-append (take n t) back) ∙ names-append (constants (take n t)) (constants back)) ok.constants_differ);
    }

-- the last id

pub last_kind : (t : Table) (k : List ℕ) (id : KindId) → id.0 ≡ length (kinds t) → HoldsKind (t ++ a_kind k ∷ []) id × (kind_of (t ++ a_kind k ∷ []) id ≡ k)
last_kind t k id e =
    (omega (arith, ap length (kinds-append t (a_kind k ∷ [])), length-append (kinds t) (k ∷ [])), ap (λ l. get_or l id.0 []) (kinds-append t (a_kind k ∷ [])) ∙ get_or_push (kinds t) k [] id.0 (sym e))

pub last_type : (t : Table) (A : Ty) (id : TypeId) → id.0 ≡ length (types t) → HoldsType (t ++ a_type A ∷ []) id × (type_of (t ++ a_type A ∷ []) id ≡ A)
last_type t A id e =
    (omega (arith, ap length (types-append t (a_type A ∷ [])), length-append (types t) (A ∷ [])), ap (λ l. get_or l id.0 prop) (types-append t (a_type A ∷ [])) ∙ get_or_push (types t) A prop id.0 (sym e))

pub last_constant : (t : Table) (c : Constant) (id : ConstId) → id.0 ≡ length (constants t) → HoldsConstant (t ++ a_constant c ∷ []) id × (constant_of (t ++ a_constant c ∷ []) id ≡ c)
last_constant t c id e =
    let d : Constant = record { name = []; type = prop } in
    (omega (arith, ap length (constants-append t (a_constant c ∷ [])), length-append (constants t) (c ∷ [])), ap (λ l. get_or l id.0 d) (constants-append t (a_constant c ∷ [])) ∙ get_or_push (constants t) c d id.0 (sym e))

-- as they are kept

pub record Put (ss : List Sort) (ks : List (List ℕ)) (vs : List TypeView) (cs : List Kept) (t : Table) : Type 0 where
  pub is : table_of ss ks vs cs ≡ t
  pub ok : IsKept ss ks vs cs

module _ (ss : List Sort) (ks : List (List ℕ)) (vs : List TypeView) (cs : List Kept) (t : Table) (is : table_of ss ks vs cs ≡ t) (ok : IsKept ss ks vs cs) where
  add_row : (ss2 : List Sort) (ks2 : List (List ℕ)) (vs2 : List TypeView) (cs2 : List Kept) (r : Row) → PutsRow ss ks vs cs ss2 ks2 vs2 cs2 r → StandsOn t r → IsTable (t ++ entry_of t r ∷ []) → Put ss2 ks2 vs2 cs2 (t ++ entry_of t r ∷ [])
  add_row ss2 ks2 vs2 cs2 r put stands table =
      let same : table_of ss2 ks2 vs2 cs2 ≡ t ++ entry_of t r ∷ [] = ap (with_rows []) put.rows_are ∙ with_rows-append [] (rows ss ks vs cs) (r ∷ []) ∙ ap (λ u. u ++ entry_of u r ∷ []) is in
      record {
        is = same;
        ok = record {
          fits = put.fits;
          stand = subst (StandOn []) (sym put.rows_are) (stand-append [] (rows ss ks vs cs) (r ∷ []) ok.stand (subst (λ u. StandsOn u r) (sym is) stands, tt));
          table = subst IsTable (sym same) table;
        };
      }

  pub add_kind : (k : List ℕ) → (Contains ks k → ⊥) → Put (ss ++ Kind ∷ []) (ks ++ k ∷ []) vs cs (t ++ a_kind k ∷ [])
  add_kind k new =
      add_row (ss ++ Kind ∷ []) (ks ++ k ∷ []) vs cs (kind_row k) (put_kind ss ks vs cs k ok.fits) tt
      (with_kind t k (kept.is_table ss ks vs cs t is ok) (λ there. new (subst (λ l. Contains l k) (kept.kinds_are ss ks vs cs t is ok) there)))

  pub add_type : (v : TypeView) → HoldsView t v → (Contains vs v → ⊥) → Put (ss ++ Typ ∷ []) ks (vs ++ v ∷ []) cs (t ++ a_type (seen_type t v) ∷ [])
  add_type v held new =
      add_row (ss ++ Typ ∷ []) ks (vs ++ v ∷ []) cs (type_row v) (put_type ss ks vs cs v ok.fits) held
      (with_type t (seen_type t v) (kept.is_table ss ks vs cs t is ok) (λ there. new (kept.kept_view ss ks vs cs t is ok v held there)))

  pub add_constant : (c : Kept) → HoldsType t c.1 → (Contains (keys_of cs) c.0 → ⊥) → Put (ss ++ Con ∷ []) ks vs (cs ++ c ∷ []) (t ++ a_constant (constant c.0 (type_of t c.1)) ∷ [])
  add_constant c held new =
      add_row (ss ++ Con ∷ []) ks vs (cs ++ c ∷ []) (constant_row c) (put_constant ss ks vs cs c ok.fits) held
      (with_constant t (constant c.0 (type_of t c.1)) (kept.is_table ss ks vs cs t is ok) (λ there. new (subst (λ l. Contains l c.0) (kept.names_are ss ks vs cs t is ok) there)))

  -- what `intern` leaves
  pub record Interns (v : TypeView) (place : ℕ) (vs2 : List TypeView) (ss2 : List Sort) : Type 0 where
    pub still : IsKept ss2 ks vs2 cs
    pub held : HoldsType (table_of ss2 ks vs2 cs) (record { 0 = place })
    pub id : type_of (table_of ss2 ks vs2 cs) (record { 0 = place }) ≡ seen_type t v
    pub entries : FindsOrAdds t (a_type (seen_type t v)) (table_of ss2 ks vs2 cs)
    pub extended : IsExtendedBy t (table_of ss2 ks vs2 cs)

  interns_there : (v : TypeView) (place : ℕ) → HoldsView t v → Contains vs v → slice_get vs place ≡ Some v → Interns v place vs ss
  interns_there v place held there at =
      let low : place < length vs = slice_get_within vs place v at in
      let id : TypeId = record { 0 = place } in
      let reads = kept.type_reads ss ks vs cs t is ok id v low (sym (get_or_from_slice_get vs place v v at)) in
      let holds : HoldsType t id = omega (arith, low, kept.types_len ss ks vs cs t is ok) in
      let among : Contains (types t) (seen_type t v) = (place, holds, get_or_default (types t) place (seen_type t v) prop holds ∙ reads.1) in
      record {
        still = ok;
        held = subst (λ u. HoldsType u id) (sym is) holds;
        id = ap (λ u. type_of u id) is ∙ reads.1;
        entries = inl (from_types t (seen_type t v) among, is);
        extended = subst (IsExtendedBy t) (sym is) (extended_by_itself t);
      }

  interns_behind : (v : TypeView) (place : ℕ) → HoldsView t v → (Contains vs v → ⊥) → slice_get (vs ++ v ∷ []) place ≡ Some v → Interns v place (vs ++ v ∷ []) (ss ++ Typ ∷ [])
  interns_behind v place held new at =
      let put = add_type v held new in
      let vs2 = vs ++ v ∷ [] in
      let ss2 = ss ++ Typ ∷ [] in
      let e : Entry = a_type (seen_type t v) in
      let u : Table = t ++ e ∷ [] in
      let low : place < length vs2 = slice_get_within vs2 place v at in
      let id : TypeId = record { 0 = place } in
      let reads = kept.type_reads ss2 ks vs2 cs u put.is put.ok id v low (sym (get_or_from_slice_get vs2 place v v at)) in
      let holds : HoldsType u id = omega (arith, low, kept.types_len ss2 ks vs2 cs u put.is put.ok) in
      let absent : Contains t e → ⊥ = λ there. new (kept.kept_view ss ks vs cs t is ok v held (in_types t (seen_type t v) there)) in
      record {
        still = put.ok;
        held = subst (λ w. HoldsType w id) (sym put.is) holds;
        id = ap (λ w. type_of w id) put.is ∙ reads.1 ∙ same_seen t (e ∷ []) v held;
        entries = inr (absent, put.is);
        extended = subst (IsExtendedBy t) (sym put.is) (extended_by_one t e);
      }

  pub interns : (v : TypeView) (place : ℕ) (vs2 : List TypeView) (ss2 : List Sort) → HoldsView t v → PutsOnce v Typ vs ss vs2 ss2 → slice_get vs2 place ≡ Some v → Interns v place vs2 ss2
  interns v place vs2 ss2 held (inl (there, (e, f))) at =
      subst₂ (Interns v place) (sym e) (sym f) (interns_there v place held there (ap (λ l. slice_get l place) (sym e) ∙ at))
  interns v place vs2 ss2 held (inr (new, (e, f))) at =
      subst₂ (Interns v place) (sym e) (sym f) (interns_behind v place held new (ap (λ l. slice_get l place) (sym e) ∙ at))

  -- what declaring a kind leaves
  pub record AddsKind (k : List ℕ) (place : ℕ) (ks2 : List (List ℕ)) (ss2 : List Sort) : Type 0 where
    pub still : IsKept ss2 ks2 vs cs
    pub held : HoldsKind (table_of ss2 ks2 vs cs) (record { 0 = place })
    pub id : kind_of (table_of ss2 ks2 vs cs) (record { 0 = place }) ≡ k
    pub entries : table_of ss2 ks2 vs cs ≡ t ++ a_kind k ∷ []
    pub extended : IsExtendedBy t (table_of ss2 ks2 vs cs)

  adds_kind_behind : (k : List ℕ) (place : ℕ) → place ≡ length ks → (Contains ks k → ⊥) → AddsKind k place (ks ++ k ∷ []) (ss ++ Kind ∷ [])
  adds_kind_behind k place at new =
      let put = add_kind k new in
      let id : KindId = record { 0 = place } in
      let last = last_kind t k id (at ∙ ap length (sym (kept.kinds_are ss ks vs cs t is ok))) in
      record {
        still = put.ok;
        held = subst (λ w. HoldsKind w id) (sym put.is) last.0;
        id = ap (λ w. kind_of w id) put.is ∙ last.1;
        entries = put.is;
        extended = subst (IsExtendedBy t) (sym put.is) (extended_by_one t (a_kind k));
      }

  pub adds_kind : (k : List ℕ) (place : ℕ) (ks2 : List (List ℕ)) (ss2 : List Sort) → place ≡ length ks → (Contains ks k → ⊥) → AreWith k Kind ks ss ks2 ss2 → AddsKind k place ks2 ss2
  adds_kind k place ks2 ss2 at new (e, f) = subst₂ (AddsKind k place) (sym e) (sym f) (adds_kind_behind k place at new)

  -- what declaring a constant leaves
  pub record AddsConstant (c : Kept) (place : ℕ) (cs2 : List Kept) (ss2 : List Sort) : Type 0 where
    pub still : IsKept ss2 ks vs cs2
    pub held : HoldsConstant (table_of ss2 ks vs cs2) (record { 0 = place })
    pub id : constant_of (table_of ss2 ks vs cs2) (record { 0 = place }) ≡ constant c.0 (type_of t c.1)
    pub entries : table_of ss2 ks vs cs2 ≡ t ++ a_constant (constant c.0 (type_of t c.1)) ∷ []
    pub extended : IsExtendedBy t (table_of ss2 ks vs cs2)

  adds_constant_behind : (c : Kept) (place : ℕ) → place ≡ length cs → HoldsType t c.1 → (Contains (keys_of cs) c.0 → ⊥) → AddsConstant c place (cs ++ c ∷ []) (ss ++ Con ∷ [])
  adds_constant_behind c place at held new =
      let put = add_constant c held new in
      let id : ConstId = record { 0 = place } in
      let d : Constant = constant c.0 (type_of t c.1) in
      let last = last_constant t d id (at ∙ sym (kept.constants_len ss ks vs cs t is ok)) in
      record {
        still = put.ok;
        held = subst (λ w. HoldsConstant w id) (sym put.is) last.0;
        id = ap (λ w. constant_of w id) put.is ∙ last.1;
        entries = put.is;
        extended = subst (IsExtendedBy t) (sym put.is) (extended_by_one t (a_constant d));
      }

  pub adds_constant : (c : Kept) (place : ℕ) (cs2 : List Kept) (ss2 : List Sort) → place ≡ length cs → HoldsType t c.1 → (Contains (keys_of cs) c.0 → ⊥) → AreWith c Con cs ss cs2 ss2 → AddsConstant c place cs2 ss2
  adds_constant c place cs2 ss2 at held new (e, f) = subst₂ (AddsConstant c place) (sym e) (sym f) (adds_constant_behind c place at held new)

  -- what dropping the last entry leaves
  pub record Drops (ss0 : List Sort) (ks0 : List (List ℕ)) (vs0 : List TypeView) (cs0 : List Kept) : Type 0 where
    pub still : IsKept ss0 ks0 vs0 cs0
    pub entries : table_of ss0 ks0 vs0 cs0 ≡ take (length t - 1) t

  pub drops : (ss0 : List Sort) (ks0 : List (List ℕ)) (vs0 : List TypeView) (cs0 : List Kept) → AddsRow ss0 ks0 vs0 cs0 ss ks vs cs → length first_entries < length t → Drops ss0 ks0 vs0 cs0
  drops ss0 ks0 vs0 cs0 adds more =
      let rs = rows ss0 ks0 vs0 cs0 in
      let u : Table = table_of ss0 ks0 vs0 cs0 in
      let e : Entry = entry_of u adds.row in
      let same : t ≡ u ++ e ∷ [] = sym is ∙ ap (with_rows []) adds.rows_are ∙ with_rows-append [] rs (adds.row ∷ []) in
      let size : length t - 1 ≡ length u = omega (arith, ap length same, length-append u (e ∷ [])) in
      let front : take (length t - 1) t ≡ u = ap (λ n. take n t) size ∙ ap (take (length u)) same ∙ take-append_seam u (e ∷ []) in
      record {
        still = record {
          fits = adds.fits;
          stand = stand-front [] rs (adds.row ∷ []) (subst (StandOn []) adds.rows_are ok.stand);
          table = subst IsTable front (front_table t (length t - 1) (kept.is_table ss ks vs cs t is ok) (omega (arith, more)) (omega (arith, more)));
        };
        entries = sym front;
      }
