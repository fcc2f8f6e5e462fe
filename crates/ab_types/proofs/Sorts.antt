-- The sorts of a table's entries, and its last entry.
use Rattle.std.proofs.Common.{◌≡◌, ◌⊎◌, inl, inr, ℕ, ◌+◌, ◌-◌, ◌<◌, ◌≤◌, List, [], ◌∷◌, ◌++◌, map, length, slice_get, take, Option, Some, refl, sym, ◌∙◌, ap, subst, arith, length-append, append_assoc, append-nil}
use Rattle.std.proofs.lemmas.List.{map-append}
use Rattle.std.proofs.Math.Seq.{take-append_seam}
use Rattle.ab_term.specs.Types.{Ty}
use Rattle.ab_types.specs.Entries.{Entry, a_kind, a_type, a_constant, Table, kinds, types, constants, IsExtendedBy}
use Rattle.ab_types.specs.LastTypes.{types_up_to, LosesTypes, HasEnough, EndsSpare}
use Rattle.ab_types.specs.Layout.{Kept, Row, kind_row, type_row, constant_row, rows, entry_of, with_rows, table_of, Fits, IsKept}
use Rattle.ab_types.specs.declared.ids.TypeId.{TypeId}
use Rattle.ab_types.specs.declared.ids.TypeView.{TypeView}
use Rattle.ab_types.specs.declared.columns.Sort.{Sort}
use Rattle.ab_types.specs.declared.columns.Sort.TheVariants.{Kind, Ty as Typ, Constant}
use Rattle.ab_types.proofs.Members.{at_push}
use Rattle.ab_types.proofs.Entries.{kinds-append, types-append, constants-append, extended_twice}
use Rattle.ab_types.proofs.Kept as kept

-- the sorts

abbrev pub sort_of : Entry → Sort
sort_of (a_kind k) = Kind
sort_of (a_type A) = Typ
sort_of (a_constant c) = Constant

abbrev row_sort : Row → Sort
row_sort (kind_row k) = Kind
row_sort (type_row v) = Typ
row_sort (constant_row c) = Constant

same_sort : (t : Table) (r : Row) → sort_of (entry_of t r) ≡ row_sort r
same_sort t (kind_row k) = refl
same_sort t (type_row v) = refl
same_sort t (constant_row c) = refl

sorts-with_rows : (t : Table) (rs : List Row) → map sort_of (with_rows t rs) ≡ map sort_of t ++ map row_sort rs
sorts-with_rows t [] = sym (append-nil _)
sorts-with_rows t (r ∷ rs) =
    sorts-with_rows (t ++ entry_of t r ∷ []) rs
    ∙ ap (λ l. l ++ map row_sort rs) (map-append sort_of t (entry_of t r ∷ []) ∙ ap (λ s. map sort_of t ++ s ∷ []) (same_sort t r))
    ∙ append_assoc (map sort_of t) (row_sort r ∷ []) (map row_sort rs)

sorts-rows : (ss : List Sort) (ks : List (List ℕ)) (vs : List TypeView) (cs : List Kept) → Fits ss ks vs cs → map row_sort (rows ss ks vs cs) ≡ ss
sorts-rows [] ks vs cs f = refl
sorts-rows (Kind ∷ ss) [] vs cs f = absurd f
sorts-rows (Kind ∷ ss) (k ∷ ks) vs cs f = ap (λ l. Kind ∷ l) (sorts-rows ss ks vs cs f)
sorts-rows (Typ ∷ ss) ks [] cs f = absurd f
sorts-rows (Typ ∷ ss) ks (v ∷ vs) cs f = ap (λ l. Typ ∷ l) (sorts-rows ss ks vs cs f)
sorts-rows (Constant ∷ ss) ks vs [] f = absurd f
sorts-rows (Constant ∷ ss) ks vs (c ∷ cs) f = ap (λ l. Constant ∷ l) (sorts-rows ss ks vs cs f)

-- the last of a list

snoc : {X : Type 0} (xs : List X) → (xs ≡ []) ⊎ (ys : List X) × (y : X) × (xs ≡ ys ++ y ∷ [])
snoc [] = inl refl
snoc (x ∷ xs) = go (snoc xs)
  where
    go : (xs ≡ []) ⊎ (ys : List _) × (y : _) × (xs ≡ ys ++ y ∷ []) → (x ∷ xs ≡ []) ⊎ (ys : List _) × (y : _) × (x ∷ xs ≡ ys ++ y ∷ [])
    go (inl e) = inr ([], x, ap (λ l. x ∷ l) e)
    go (inr (ys, y, e)) = inr (x ∷ ys, y, ap (λ l. x ∷ l) e)

last_is : {X : Type 0} (xs ys : List X) (y : X) → xs ≡ ys ++ y ∷ [] → slice_get xs (length xs - 1) ≡ Some y
last_is xs ys y e =
    let size : length (ys ++ y ∷ []) - 1 ≡ length ys = omega (arith, length-append ys (y ∷ [])) in
    ap (λ l. slice_get l (length l - 1)) e ∙ ap (slice_get (ys ++ y ∷ [])) size ∙ at_push ys y

-- a table with a type more

pub kinds_before : (t : Table) (A : Ty) → kinds (t ++ a_type A ∷ []) ≡ kinds t
kinds_before t A = kinds-append t (a_type A ∷ []) ∙ append-nil (kinds t)

pub constants_before : (t : Table) (A : Ty) → constants (t ++ a_type A ∷ []) ≡ constants t
constants_before t A = constants-append t (a_type A ∷ []) ∙ append-nil (constants t)

pub one_type_more : (t : Table) (A : Ty) → length (types (t ++ a_type A ∷ [])) ≡ length (types t) + 1
one_type_more t A = ap length (types-append t (a_type A ∷ [])) ∙ length-append (types t) (A ∷ [])

-- the last entry, as it is kept

module _ (ss : List Sort) (ks : List (List ℕ)) (vs : List TypeView) (cs : List Kept) (t : Table) (is : table_of ss ks vs cs ≡ t) (ok : IsKept ss ks vs cs) where
  sorts_are : map sort_of t ≡ ss
  sorts_are = sym (ap (map sort_of) is) ∙ sorts-with_rows [] (rows ss ks vs cs) ∙ sorts-rows ss ks vs cs ok.fits

  last_sort : (front : Table) (e : Entry) → t ≡ front ++ e ∷ [] → slice_get ss (length ss - 1) ≡ Some (sort_of e)
  last_sort front e same = last_is ss (map sort_of front) (sort_of e) (sym sorts_are ∙ ap (map sort_of) same ∙ map-append sort_of front (e ∷ []))

  -- where a type is last, the table ends so
  pub ends_in_type : slice_get ss (length ss - 1) ≡ Some Typ → (front : Table) × (A : Ty) × (t ≡ front ++ a_type A ∷ [])
  ends_in_type last = go (snoc t)
    where
      of_type : (front : Table) (e : Entry) → t ≡ front ++ e ∷ [] → sort_of e ≡ Typ → (f : Table) × (A : Ty) × (t ≡ f ++ a_type A ∷ [])
      of_type front (a_kind k) same s = absurd (cc)
      of_type front (a_type A) same s = (front, A, same)
      of_type front (a_constant c) same s = absurd (cc)

      go : (t ≡ []) ⊎ (ys : Table) × (y : Entry) × (t ≡ ys ++ y ∷ []) → (f : Table) × (A : Ty) × (t ≡ f ++ a_type A ∷ [])
      go (inl e) =
          let none : ss ≡ [] = sym sorts_are ∙ ap (map sort_of) e in
          let bad = sym (ap (λ l. slice_get l (length l - 1)) none) ∙ last in
          absurd (cc)
      go (inr (ys, y, e)) =
          let same : Some (sort_of y) ≡ Some Typ = sym (last_sort ys y e) ∙ last in
          of_type ys y e (cc)

  -- and only there
  pub no_spare : (len : ℕ) (named : Option TypeId) (o : Option Sort) → slice_get ss (length ss - 1) ≡ o → (o ≡ Some Typ → ⊥) → EndsSpare len named t → ⊥
  no_spare len named o last other e = other (sym last ∙ last_sort e.front (a_type e.type) e.ends)

  pub long_enough : (len : ℕ) (named : Option TypeId) → EndsSpare len named t → len < length ss
  long_enough len named e = omega (arith, e.enough.long, ap length e.ends, length-append e.front (a_type e.type ∷ []), kept.len ss ks vs cs t is ok)

  pub behind : (len : ℕ) (named : Option TypeId) → EndsSpare len named t → types_up_to named < length vs
  behind len named e = omega (arith, e.enough.held, ap (λ u. length (types u)) e.ends, one_type_more e.front e.type, kept.types_len ss ks vs cs t is ok)

  pub spare : (len : ℕ) (named : Option TypeId) → len < length ss → slice_get ss (length ss - 1) ≡ Some Typ → types_up_to named ≤ length vs - 1 → EndsSpare len named t
  spare len named long last less =
      let there = ends_in_type last in record {
        front = there.0;
        type = there.1;
        ends = there.2;
        enough = record {
          long = omega (arith, long, ap length there.2, length-append there.0 (a_type there.1 ∷ []), kept.len ss ks vs cs t is ok);
          held = omega (arith, less, ap (λ u. length (types u)) there.2, one_type_more there.0 there.1, kept.types_len ss ks vs cs t is ok);
        };
      }

-- of two fronts of a list the shorter is one of the other
pub front_of_front : {X : Type 0} (a b c d : List X) → a ++ b ≡ c ++ d → length a ≤ length c → (more : List X) × (c ≡ a ++ more)
front_of_front [] b c d e l = (c, refl)
front_of_front (x ∷ a) b [] d e l = absurd (omega (arith, l))
front_of_front (x ∷ a) b (y ∷ c) d e l =
    let heads : x ≡ y = cc in
    let tails : a ++ b ≡ c ++ d = cc in
    let rest = front_of_front a b c d tails (omega (arith, l)) in
    (rest.0, ap (λ z. z ∷ c) (sym heads) ∙ ap (λ l. x ∷ l) rest.1)

pub extended_within : (s t u : Table) → IsExtendedBy s u → IsExtendedBy t u → length s ≤ length t → IsExtendedBy s t
extended_within s t u (a, p) (b, q) l = front_of_front s a t b (sym p ∙ q) l

-- types are dropped twice
pub loses_twice : (s t u : Table) → LosesTypes s t → LosesTypes t u → LosesTypes s u
loses_twice s t u a b = record {
  front = extended_twice u t s b.front a.front;
  same_kinds = b.same_kinds ∙ a.same_kinds;
  same_constants = b.same_constants ∙ a.same_constants;
}

-- what went names no kind and no constant

pub no_kind_went : (s t : Table) (loses : LosesTypes s t) → length (kinds loses.front.0) ≡ 0
no_kind_went s t loses = omega (arith, ap (λ u. length (kinds u)) loses.front.1, ap length (kinds-append t loses.front.0), length-append (kinds t) (kinds loses.front.0), ap length loses.same_kinds)

pub no_constant_went : (s t : Table) (loses : LosesTypes s t) → length (constants loses.front.0) ≡ 0
no_constant_went s t loses = omega (arith, ap (λ u. length (constants u)) loses.front.1, ap length (constants-append t loses.front.0), length-append (constants t) (constants loses.front.0), ap length loses.same_constants)

-- types that are dropped one after another

pub record AreLost (len : ℕ) (named : Option TypeId) (old : Table) (begun : ℕ) (new : Table) (steps : ℕ) : Type 0 where
  pub loses : LosesTypes old new
  pub enough : HasEnough len named new
  pub counted : steps + length new ≡ begun + length old

pub none_lost : (len : ℕ) (named : Option TypeId) (t : Table) (n : ℕ) → HasEnough len named t → AreLost len named t n t n
none_lost len named t n enough = record {
  loses = record { front = ([], sym (append-nil t)); same_kinds = refl; same_constants = refl };
  enough = enough;
  counted = refl;
}

module _ (len : ℕ) (named : Option TypeId) (old : Table) (begun : ℕ) (t : Table) (steps : ℕ) (so_far : AreLost len named old begun t steps) where
  pub one_lost : (new : Table) (n : ℕ) → EndsSpare len named t → new ≡ take (length t - 1) t → n ≡ steps + 1 → AreLost len named old begun new n
  one_lost new n s dropped ticked =
      let size : length t - 1 ≡ length s.front = omega (arith, ap length s.ends, length-append s.front (a_type s.type ∷ [])) in
      let front : new ≡ s.front = dropped ∙ ap (λ k. take k t) size ∙ ap (take (length s.front)) s.ends ∙ take-append_seam s.front (a_type s.type ∷ []) in
      subst (λ u. AreLost len named old begun u n) (sym front) (record {
        loses = record {
          front = extended_twice s.front t old (a_type s.type ∷ [], s.ends) so_far.loses.front;
          same_kinds = sym (ap kinds s.ends ∙ kinds_before s.front s.type) ∙ so_far.loses.same_kinds;
          same_constants = sym (ap constants s.ends ∙ constants_before s.front s.type) ∙ so_far.loses.same_constants;
        };
        enough = s.enough;
        counted = omega (arith, so_far.counted, ticked, ap length s.ends, length-append s.front (a_type s.type ∷ []));
      })

  -- no table with enough that the first is without types at its end is shorter
  pub none_shorter : (EndsSpare len named t → ⊥) → (u : Table) → LosesTypes old u → HasEnough len named u → length t ≤ length u
  none_shorter whole u loses enough = go (either (length u) (length t))
    where
      either : (a b : ℕ) → (a < b) ⊎ (b ≤ a)
      either a b = search arith

      no_kind : (x : Table) → length (kinds (u ++ x)) ≡ length (kinds u) → length (kinds x) ≡ 0
      no_kind x e = omega (arith, e, ap length (kinds-append u x), length-append (kinds u) (kinds x))

      no_constant : (x : Table) → length (constants (u ++ x)) ≡ length (constants u) → length (constants x) ≡ 0
      no_constant x e = omega (arith, e, ap length (constants-append u x), length-append (constants u) (constants x))

      -- the rest isn't there, since it would end in a type
      ends : (ys : Table) (y : Entry) → t ≡ u ++ (ys ++ y ∷ []) → length (kinds (ys ++ y ∷ [])) ≡ 0 → length (constants (ys ++ y ∷ [])) ≡ 0 → ⊥
      ends ys (a_kind k) same ks cs = absurd (omega (arith, ks, ap length (kinds-append ys (a_kind k ∷ [])), length-append (kinds ys) (k ∷ [])))
      ends ys (a_constant c) same ks cs = absurd (omega (arith, cs, ap length (constants-append ys (a_constant c ∷ [])), length-append (constants ys) (c ∷ [])))
      ends ys (a_type A) same ks cs = whole (record {
        front = u ++ ys;
        type = A;
        ends = same ∙ sym (append_assoc u ys (a_type A ∷ []));
        enough = record {
          long = omega (arith, enough.long, length-append u ys);
          held = omega (arith, enough.held, ap length (types-append u ys), length-append (types u) (types ys));
        };
      })

      rest : (more : Table) → t ≡ u ++ more → length u < length t → length (kinds more) ≡ 0 → length (constants more) ≡ 0 → (more ≡ []) ⊎ (ys : Table) × (y : Entry) × (more ≡ ys ++ y ∷ []) → ⊥
      rest more same l ks cs (inl e) = absurd (omega (arith, l, ap length same, length-append u more, ap length e))
      rest more same l ks cs (inr (ys, y, e)) =
          ends ys y (same ∙ ap (λ z. u ++ z) e) (ap (λ z. length (kinds z)) (sym e) ∙ ks) (ap (λ z. length (constants z)) (sym e) ∙ cs)

      go : (length u < length t) ⊎ (length t ≤ length u) → length t ≤ length u
      go (inr l) = l
      go (inl l) =
          let cut = extended_within u t old loses.front so_far.loses.front (omega (arith, l)) in
          absurd (rest cut.0 cut.1 l
          (no_kind cut.0 (ap (λ z. length (kinds z)) (sym cut.1) ∙ ap length (so_far.loses.same_kinds ∙ sym loses.same_kinds)))
          (no_constant cut.0 (ap (λ z. length (constants z)) (sym cut.1) ∙ ap length (so_far.loses.same_constants ∙ sym loses.same_constants)))
          (snoc cut.0))
