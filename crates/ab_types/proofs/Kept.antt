-- A table as it is kept, and what its callers see of it.
use Rattle.std.proofs.Common.{◌≡◌, ℕ, zero, suc, ◌<◌, Bool, true, false, nat_eq, List, [], ◌∷◌, length, get_or, slice_get, Contains, Some, position, bytes_eq, if◌then◌else◌, refl, sym, ◌∙◌, ap, subst, arith}
use Rattle.std.proofs.lemmas.Option.{slice_get_within, get_or_from_slice_get, slice_get-get_or}
use Rattle.std.proofs.lemmas.List.{get_or_default}
use Rattle.std.proofs.lemmas.List.Quantifiers.{position-Some}
use Rattle.std.proofs.lemmas.Map.Entries.{length-keys_of}
use Rattle.std.specs.Map.{keys_of}
use Rattle.std.specs.Cmp.Lexicographic.{pointwise, bytes_decides}
use Rattle.std.specs.List.{list_any}
use Rattle.ab_term.specs.Types.{prop}
use Rattle.ab_term.specs.Constants.{Constant, names, type_in}
use Rattle.ab_types.specs.Entries.{Table, kinds, types, constants, signature}
use Rattle.ab_types.specs.Ids.{HoldsKind, HoldsType, HoldsConstant, HoldsView, kind_of, type_of, constant_of, seen_type}
use Rattle.ab_types.specs.Sound.{AreDifferent, IsTable}
use Rattle.ab_types.specs.Layout.{Kept, rows, table_of, IsKept}
use Rattle.ab_types.specs.declared.ids.KindId.{KindId}
use Rattle.ab_types.specs.declared.ids.TypeId.{TypeId}
use Rattle.ab_types.specs.declared.ids.ConstId.{ConstId}
use Rattle.ab_types.specs.declared.ids.TypeView.{TypeView}
use Rattle.ab_types.specs.declared.ids.TypeView.TheVariants.{Base, Arrow}
use Rattle.ab_types.specs.declared.columns.Sort.{Sort}
use Rattle.ab_types.proofs.Members.{same_name, name_not_in, one_place}
use Rattle.ab_types.proofs.Entries.{length-names}
use Rattle.ab_types.proofs.Rows.{type_rows, constant_rows, length-with_rows, kinds-with_rows, types_grow, names-with_rows, type_at, constant_at, ReadsAt, NamesAt}
use Rattle.ab_types.proofs.Merging.{length-rows, kind_rows-rows, type_rows-rows, constant_rows-rows}

-- ids that read the same are one

pub one_kind : (t : Table) → IsTable t → (a b : KindId) → HoldsKind t a → HoldsKind t b → kind_of t a ≡ kind_of t b → a ≡ b
one_kind t ok a b ha hb e = ap (λ n. record { 0 = n }) (one_place (kinds t) a.0 b.0 [] ok.kinds_differ ha hb e)

pub one_type : (t : Table) → IsTable t → (a b : TypeId) → HoldsType t a → HoldsType t b → type_of t a ≡ type_of t b → a ≡ b
one_type t ok a b ha hb e = ap (λ n. record { 0 = n }) (one_place (types t) a.0 b.0 prop ok.types_differ ha hb e)

name_at : (cs : List Constant) (i : ℕ) (d : Constant) → i < length cs → get_or (names cs) i [] ≡ (get_or cs i d).name
name_at [] i d h = absurd (omega arith)
name_at (c ∷ cs) zero d h = refl
name_at (c ∷ cs) (suc i) d h = name_at cs i d (omega arith)

pub constant_name : (t : Table) (id : ConstId) → HoldsConstant t id → get_or (names (constants t)) id.0 [] ≡ (constant_of t id).name
constant_name t id h = name_at (constants t) id.0 (record { name = []; type = prop }) h

pub one_constant : (t : Table) → IsTable t → (a b : ConstId) → HoldsConstant t a → HoldsConstant t b → (constant_of t a).name ≡ (constant_of t b).name → a ≡ b
one_constant t ok a b ha hb e =
    ap (λ n. record { 0 = n }) (one_place (names (constants t)) a.0 b.0 [] ok.constants_differ (omega (arith, ha, length-names (constants t))) (omega (arith, hb, length-names (constants t))) (constant_name t a ha ∙ e ∙ sym (constant_name t b hb)))

pub one_view : (t : Table) → IsTable t → (v w : TypeView) → HoldsView t v → HoldsView t w → seen_type t v ≡ seen_type t w → v ≡ w
one_view t ok (Base k) (Base l) hv hw e =
    let same : kind_of t k ≡ kind_of t l = cc in
    ap Base (one_kind t ok k l hv hw same)
one_view t ok (Base k) (Arrow c d) hv hw e = absurd (cc)
one_view t ok (Arrow a b) (Base l) hv hw e = absurd (cc)
one_view t ok (Arrow a b) (Arrow c d) hv hw e =
    let from : type_of t a ≡ type_of t c = cc in
    let to : type_of t b ≡ type_of t d = cc in
    let first = one_type t ok a c hv.0 hw.0 from in
    let second = one_type t ok b d hv.1 hw.1 to in
    ap (λ x. Arrow x b) first ∙ ap (λ x. Arrow c x) second

-- a constant's type, by its name

type_in_at : (cs : List Constant) → AreDifferent (names cs) → (i : ℕ) (d : Constant) → i < length cs → type_in cs (get_or cs i d).name ≡ Some (get_or cs i d).type
type_in_at [] different i d h = absurd (omega arith)
type_in_at (c ∷ cs) different zero d h = ap (λ b. if b then Some c.type else type_in cs c.name) ((bytes_decides c.name c.name).1 refl)
type_in_at (c ∷ cs) different (suc i) d h = go (bytes_eq x.name c.name) refl (type_in_at cs (λ a b ha hb e. suc_inj (different (suc a) (suc b) (omega arith) (omega arith) e)) i d (omega arith))
  where
    x : Constant
    x = get_or cs i d

    suc_inj : {a b : ℕ} → suc a ≡ suc b → a ≡ b
    suc_inj e = omega (arith, e)

    go : (b : Bool) → bytes_eq x.name c.name ≡ b → type_in cs x.name ≡ Some x.type → type_in (c ∷ cs) x.name ≡ Some x.type
    go true p rest =
        let same : x.name ≡ c.name = same_name x.name c.name p in
        let low : i < length (names cs) = omega (arith, h, length-names cs) in
        let later : slice_get (names cs) i ≡ Some x.name = slice_get-get_or (names cs) i [] low ∙ ap Some (name_at cs i d (omega arith)) in
        absurd (apart (different (suc i) 0 (omega arith) (omega arith) (later ∙ ap Some same)))
      where
        apart : suc i ≡ 0 → ⊥
        apart e = absurd (omega (arith, e))
    go false p rest = ap (λ b. if b then Some c.type else type_in cs x.name) p ∙ rest

pub own_type : (t : Table) → IsTable t → (id : ConstId) → HoldsConstant t id → signature t (constant_of t id).name ≡ Some (constant_of t id).type
own_type t ok id h = type_in_at (constants t) ok.constants_differ id.0 (record { name = []; type = prop }) h

-- what a look-up by name finds

pub found_name : (ks : List (List ℕ)) (k : List ℕ) (i : ℕ) → position (pointwise nat_eq k) ks ≡ Some i → (i < length ks) × (get_or ks i [] ≡ k)
found_name ks k i e =
    let found = position-Some (pointwise nat_eq k) ks i [] e in
    (found.0, sym (same_name k (get_or ks i []) found.1))

pub among_names : (ks : List (List ℕ)) (k : List ℕ) (i : ℕ) → position (pointwise nat_eq k) ks ≡ Some i → Contains ks k
among_names ks k i e = let found = found_name ks k i e in (i, found.0, get_or_default ks i k [] found.0 ∙ found.1)

module _ (ss : List Sort) (ks : List (List ℕ)) (vs : List TypeView) (cs : List Kept) (t : Table) (is : table_of ss ks vs cs ≡ t) (ok : IsKept ss ks vs cs) where
  pub is_table : IsTable t
  is_table = subst IsTable is ok.table

  pub len : length t ≡ length ss
  len = sym (ap length is) ∙ length-with_rows [] (rows ss ks vs cs) ∙ omega (arith, length-rows ss ks vs cs ok.fits)

  pub kinds_are : kinds t ≡ ks
  kinds_are = sym (ap kinds is) ∙ kinds-with_rows [] (rows ss ks vs cs) ∙ kind_rows-rows ss ks vs cs ok.fits

  pub types_len : length (types t) ≡ length vs
  types_len = sym (ap (λ u. length (types u)) is) ∙ types_grow [] (rows ss ks vs cs) ∙ omega (arith, ap length (type_rows-rows ss ks vs cs ok.fits))

  pub names_are : names (constants t) ≡ keys_of cs
  names_are = sym (ap (λ u. names (constants u)) is) ∙ names-with_rows [] (rows ss ks vs cs) ∙ ap keys_of (constant_rows-rows ss ks vs cs ok.fits)

  pub constants_len : length (constants t) ≡ length cs
  constants_len = sym (length-names (constants t)) ∙ ap length names_are ∙ length-keys_of cs

  pub type_reads : (ty : TypeId) (v : TypeView) → ty.0 < length vs → v ≡ get_or vs ty.0 v → HoldsView t v × (type_of t ty ≡ seen_type t v)
  type_reads ty v h e =
      let same = type_rows-rows ss ks vs cs ok.fits in
      let at : ReadsAt (table_of ss ks vs cs) ty.0 (get_or (type_rows (rows ss ks vs cs)) ty.0 v) = type_at [] (rows ss ks vs cs) ty.0 ty.0 v ok.stand (omega (arith, h, ap length same)) (omega arith) in
      let at_v : ReadsAt (table_of ss ks vs cs) ty.0 v = subst (ReadsAt (table_of ss ks vs cs) ty.0) (ap (λ l. get_or l ty.0 v) same ∙ sym e) at in
      let at_t : ReadsAt t ty.0 v = subst (λ u. ReadsAt u ty.0 v) is at_v in
      (at_t.held, at_t.is)

  pub constant_reads : (id : ConstId) (c : Kept) → id.0 < length cs → c ≡ get_or cs id.0 c → HoldsType t c.1 × (constant_of t id ≡ record { name = c.0; type = type_of t c.1 })
  constant_reads id c h e =
      let d : Constant = record { name = []; type = prop } in
      let same = constant_rows-rows ss ks vs cs ok.fits in
      let at : NamesAt (table_of ss ks vs cs) id.0 (get_or (constant_rows (rows ss ks vs cs)) id.0 c) d = constant_at [] (rows ss ks vs cs) id.0 id.0 c d ok.stand (omega (arith, h, ap length same)) (omega arith) in
      let at_c : NamesAt (table_of ss ks vs cs) id.0 c d = subst (λ x. NamesAt (table_of ss ks vs cs) id.0 x d) (ap (λ l. get_or l id.0 c) same ∙ sym e) at in
      let at_t : NamesAt t id.0 c d = subst (λ u. NamesAt u id.0 c d) is at_c in
      (at_t.held, at_t.is)

  -- a type that the table has is kept
  pub kept_view : (v : TypeView) → HoldsView t v → Contains (types t) (seen_type t v) → Contains vs v
  kept_view v hv (i, low, at) =
      let within : i < length vs = omega (arith, types_len) in
      let w : TypeView = get_or vs i v in
      let reads = type_reads (record { 0 = i }) w within (get_or_default vs i v w within) in
      let same : seen_type t w ≡ seen_type t v = sym reads.1 ∙ get_or_default (types t) i prop (seen_type t v) low ∙ at in
      (i, within, one_view t is_table w v reads.0 hv same)

  pub record FindsKind (k : List ℕ) (i : ℕ) : Type 0 where
    pub held : HoldsKind t (record { 0 = i })
    pub name : kind_of t (record { 0 = i }) ≡ k
    pub among : Contains (kinds t) k

  pub kind_found : (k : List ℕ) (i : ℕ) → position (pointwise nat_eq k) ks ≡ Some i → FindsKind k i
  kind_found k i e =
      let found = found_name ks k i e in
      let low : i < length ks = found.0 in
      record {
        held = omega (arith, low, ap length kinds_are);
        name = ap (λ l. get_or l i []) kinds_are ∙ found.1;
        among = subst (λ l. Contains l k) (sym kinds_are) (among_names ks k i e);
      }

  pub kind_not_found : (k : List ℕ) → list_any (pointwise nat_eq k) ks ≡ false → Contains (kinds t) k → ⊥
  kind_not_found k e there = name_not_in ks k e (subst (λ l. Contains l k) kinds_are there)

  pub record FindsConstant (k : List ℕ) (i : ℕ) : Type 0 where
    pub held : HoldsConstant t (record { 0 = i })
    pub name : (constant_of t (record { 0 = i })).name ≡ k
    pub type : signature t k ≡ Some (constant_of t (record { 0 = i })).type
    pub among : Contains (names (constants t)) k

  pub constant_found : (k : List ℕ) (i : ℕ) → position (pointwise nat_eq k) (keys_of cs) ≡ Some i → FindsConstant k i
  constant_found k i e =
      let id : ConstId = record { 0 = i } in
      let found = found_name (keys_of cs) k i e in
      let low : i < length (keys_of cs) = found.0 in
      let held : HoldsConstant t id = omega (arith, low, length-keys_of cs, constants_len) in
      let name : (constant_of t id).name ≡ k = sym (constant_name t id held) ∙ ap (λ l. get_or l i []) names_are ∙ found.1 in
      record {
        held = held;
        name = name;
        type = ap (signature t) (sym name) ∙ own_type t is_table id held;
        among = subst (λ l. Contains l k) (sym names_are) (among_names (keys_of cs) k i e);
      }

  pub constant_not_found : (k : List ℕ) → list_any (pointwise nat_eq k) (keys_of cs) ≡ false → Contains (names (constants t)) k → ⊥
  constant_not_found k e there = name_not_in (keys_of cs) k e (subst (λ l. Contains l k) names_are there)

  -- what is read by a number

  pub type_got : (ty : TypeId) (v : TypeView) → slice_get vs ty.0 ≡ Some v → HoldsView t v × (type_of t ty ≡ seen_type t v)
  type_got ty v e = type_reads ty v (slice_get_within vs ty.0 v e) (sym (get_or_from_slice_get vs ty.0 v v e))

  pub kind_got : (id : KindId) (k : List ℕ) → slice_get ks id.0 ≡ Some k → kind_of t id ≡ k
  kind_got id k e = ap (λ l. get_or l id.0 []) kinds_are ∙ get_or_from_slice_get ks id.0 k [] e

  pub constant_got : (id : ConstId) (c : Kept) → slice_get cs id.0 ≡ Some c → HoldsType t c.1 × (constant_of t id ≡ record { name = c.0; type = type_of t c.1 })
  constant_got id c e = constant_reads id c (slice_get_within cs id.0 c e) (sym (get_or_from_slice_get cs id.0 c c e))
