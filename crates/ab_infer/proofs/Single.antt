-- Rows that grow by one name.
use Rattle.std.specs.List.{All}
use Rattle.std.proofs.Common.{◌≡◌, ◌⊎◌, inl, inr, ℕ, zero, suc, ◌+◌, ◌<◌, ◌≤◌, List, [], ◌∷◌, ◌++◌, length, get_or, Some, refl, sym, ap, ◌∙◌, subst, arith, append-nil}
use Rattle.std.specs.Prelude.{Ok}
use Rattle.std.proofs.lemmas.Bool.{cases_lt}
use Rattle.std.proofs.lemmas.List.{length-append}
use Rattle.std.proofs.lemmas.List.Elements.{All-nil}
use Rattle.ab_norm.specs.ab_types.specs.Entries.{Table}
use Rattle.ab_norm.specs.ab_types.specs.Ids.{HoldsType, type_of}
use Rattle.ab_norm.specs.ab_types.specs.declared.ids.TypeId.{TypeId}
use Rattle.ab_norm.specs.ab_types.proofs.Entries.{type_still_held}
use Rattle.ab_norm.specs.ab_store.specs.declared.node.Head.{Head}
use Rattle.ab_norm.specs.ab_store.specs.Trees.{Contents, head_in}
use Rattle.ab_norm.specs.ab_store.specs.Naming.{IsTypedBy}
use Rattle.ab_meaning.specs.ResolvedNames as names
use Rattle.ab_meaning.specs.ResolvedNames.{Name}
use Rattle.ab_meaning.specs.Scopes.{Found}
use Rattle.ab_inference.specs.declared.op.Op.TheVariants as op
use Rattle.ab_inference.specs.declared.op.Mark.TheVariants as mark
use Rattle.ab_inference.specs.Sketches.{bound, known, free, variable_at, variable_of}
use Rattle.ab_inference.specs.Programs.{free_item, OpTyped}
use Rattle.ab_inference.specs.Inferences.{AreBelow}
use Rattle.ab_inference.specs.Verdicts.{AreApart, mark_of}
use Rattle.ab_infer.specs.NameScopes.{nodes_in}
use Rattle.ab_infer.specs.NormalTerms.{OpFits, HasHeadType}
use Rattle.ab_infer.proofs.Larger.{fits_more, items_more}
use Rattle.ab_infer.specs.declared.row.Row.{Row}
use Rattle.ab_infer.specs.Rows.{Grew}
use Rattle.ab_infer.specs.WalkMoves.{Puts, IsNumbered, was_there, is_new}
use Rattle.ab_infer.proofs.Occurring.{numbered_order}
use Rattle.ab_infer.proofs.Lists.{all_one}

-- the variable of a bound name is one that there is
variable_below : (n : ℕ) (ctx : List ℕ) (i m : ℕ) → AreBelow n ctx → variable_at ctx i ≡ Some m → m < n
variable_below n [] i m below e = absurd (cc)
variable_below n (j ∷ ctx) zero m below e = let h : j ≡ m = cc in subst (λ k. k < n) h below.0
variable_below n (j ∷ ctx) (suc i) m below e = variable_below n ctx i m below.1 e

module _ (t : Table) (store : Contents) (old new : Row) where
  pub grew_bound : (i m : ℕ) (f : Found) → f ≡ Ok (names.bound i) → variable_at (nodes_in old.bound.items) i ≡ Some m → Puts old new (op.Bound i m) → Grew t store old new f
  grew_bound i m f is at p = record {
    sketch = bound i m;
    is = is;
    bound = p.bound;
    steps = op.Bound i m ∷ [];
    steps_are = p.steps;
    marks = [];
    marks_are = p.marks ∙ sym (append-nil old.marks.items);
    names = [];
    names_are = p.names ∙ sym (append-nil old.names.items);
    apart = λ h. subst AreApart (sym p.names) h;
    order = p.names;
    variables = omega (arith, p.variables);
    of = λ T F N later. record {
      items = refl;
      fit = at;
      marks_are = refl;
      typed = λ below. all_one (OpTyped T N (length F)) (op.Bound i m) (let l = variable_below (length old.variables.items) (nodes_in old.bound.items) i m below at in omega (arith, l, later.variables, p.variables));
      fits = all_one (OpFits T store.cells) (op.Bound i m) tt;
      within = All-nil (λ i. variable_of N (mark_of i) < N + length F);
    };
    room = omega (arith, p.variables, ap length p.names, ap length p.steps, length-append old.steps.items (op.Bound i m ∷ []));
  }

  pub grew_known : (h : Head) (id : TypeId) (f : Found) → IsTypedBy t store → HoldsType t id → HasHeadType t store.cells h (type_of t id) → f ≡ Ok (names.known (head_in t store.cells h) (type_of t id)) → Puts old new (op.Known h id) → Grew t store old new f
  grew_known h id f typed held fits is p =
      let one : All (OpTyped t 0 0) (op.Known h id ∷ []) = all_one (OpTyped t 0 0) (op.Known h id) held in
      let fit : All (OpFits t store.cells) (op.Known h id ∷ []) = all_one (OpFits t store.cells) (op.Known h id) fits in
      record {
        sketch = known (head_in t store.cells h) (type_of t id);
        is = is;
        bound = p.bound;
        steps = op.Known h id ∷ [];
        steps_are = p.steps;
        marks = [];
        marks_are = p.marks ∙ sym (append-nil old.marks.items);
        names = [];
        names_are = p.names ∙ sym (append-nil old.names.items);
        apart = λ k. subst AreApart (sym p.names) k;
        order = p.names;
        variables = omega (arith, p.variables);
        of = λ T F N later. record {
          items = items_more t T later.table store typed 0 0 F (op.Known h id ∷ []) one fit;
          fit = tt;
          marks_are = refl;
          typed = λ below. all_one (OpTyped T N (length F)) (op.Known h id) (type_still_held t T later.table id held);
          fits = fits_more t T later.table store typed 0 0 (op.Known h id ∷ []) one fit;
          within = All-nil (λ i. variable_of N (mark_of i) < N + length F);
        };
        room = omega (arith, p.variables, ap length p.names, ap length p.steps, length-append old.steps.items (op.Known h id ∷ []));
      }

-- what is true of a name's number
record Numbers (xs ys : List Name) (x : Name) (j : ℕ) : Type 0 where
  pub more : List Name
  pub are : ys ≡ xs ++ more
  pub at_most : length more ≤ 1
  pub within : j < length ys
  pub at : get_or ys j [] ≡ x
  pub apart : AreApart xs → AreApart ys

get_front : (xs ys : List Name) (j : ℕ) → j < length xs → get_or (xs ++ ys) j [] ≡ get_or xs j []
get_front [] ys j l = absurd (omega arith)
get_front (x ∷ xs) ys zero l = refl
get_front (x ∷ xs) ys (suc j) l = get_front xs ys j (omega arith)

get_last : (xs : List Name) (x : Name) → get_or (xs ++ x ∷ []) (length xs) [] ≡ x
get_last [] x = refl
get_last (y ∷ xs) x = get_last xs x

apart_more : (xs : List Name) (x : Name) → ((k : ℕ) → k < length xs → get_or xs k [] ≡ x → ⊥) → AreApart xs → AreApart (xs ++ x ∷ [])
apart_more xs x never apart i j li lj e = go (place i li (cases_lt i (length xs))) (place j lj (cases_lt j (length xs)))
  where
    place : (k : ℕ) → k < length (xs ++ x ∷ []) → (k < length xs) ⊎ (length xs ≤ k) → (k < length xs) ⊎ (k ≡ length xs)
    place k l (inl a) = inl a
    place k l (inr b) = inr (omega (arith, length-append xs (x ∷ [])))

    go : (i < length xs) ⊎ (i ≡ length xs) → (j < length xs) ⊎ (j ≡ length xs) → i ≡ j
    go (inl a) (inl b) = apart i j a b (sym (get_front xs (x ∷ []) i a) ∙ (e ∙ get_front xs (x ∷ []) j b))
    go (inl a) (inr b) = absurd (never i a (sym (get_front xs (x ∷ []) i a) ∙ (e ∙ (ap (λ k. get_or (xs ++ x ∷ []) k []) b ∙ get_last xs x))))
    go (inr a) (inl b) = absurd (never j b (sym (get_front xs (x ∷ []) j b) ∙ (sym e ∙ (ap (λ k. get_or (xs ++ x ∷ []) k []) a ∙ get_last xs x))))
    go (inr a) (inr b) = a ∙ sym b

numbers : (xs ys : List Name) (x : Name) (j : ℕ) → IsNumbered xs ys x j → Numbers xs ys x j
numbers xs _ x j (was_there l e) = record { more = []; are = sym (append-nil xs); at_most = omega arith; within = l; at = e; apart = λ h. h }
numbers xs _ x _ (is_new never) = record { more = x ∷ []; are = refl; at_most = omega arith; within = omega (arith, length-append xs (x ∷ [])); at = get_last xs x; apart = apart_more xs x never }

pub grew_free : (t : Table) (store : Contents) (old new : Row) (x : Name) (j p : ℕ) (f : Found) → f ≡ Ok (names.free x p) → IsNumbered old.names.items new.names.items x j
    → new.steps.items ≡ old.steps.items ++ op.Free j p ∷ [] → new.marks.items ≡ old.marks.items ++ mark.Free j p ∷ [] → length new.variables.items ≡ length old.variables.items → new.bound.items ≡ old.bound.items → Grew t store old new f
grew_free t store old new x j p f is numbered steps marks variables outer =
    let n = numbers old.names.items new.names.items x j numbered in
    record {
      sketch = free x j p;
      is = is;
      bound = outer;
      steps = op.Free j p ∷ [];
      steps_are = steps;
      marks = mark.Free j p ∷ [];
      marks_are = marks;
      names = n.more;
      names_are = n.are;
      apart = n.apart;
      order = numbered_order old.names.items new.names.items x j numbered;
      variables = omega (arith, variables);
      of = λ T F N later.
          let there : get_or F j [] ≡ x = ap (λ zs. get_or zs j []) later.names_are ∙ (get_front new.names.items later.more j n.within ∙ n.at) in
          let within : j < length F = omega (arith, n.within, ap length later.names_are, length-append new.names.items later.more) in
          record {
            items = ap (λ y. free_item y j p ∷ []) there;
            fit = (within, there);
            marks_are = refl;
            typed = λ below. all_one (OpTyped T N (length F)) (op.Free j p) within;
            fits = all_one (OpFits T store.cells) (op.Free j p) tt;
            within = all_one (λ i. variable_of N (mark_of i) < N + length F) (mark.Free j p) (omega arith);
          };
      room = omega (arith, variables, n.at_most, ap length n.are, length-append old.names.items n.more, ap length steps, length-append old.steps.items (op.Free j p ∷ []));
    }

pub new_number : (xs ys : List Name) (x y : Name) (n : ℕ) → ((k : ℕ) → k < length xs → get_or xs k [] ≡ x → ⊥) → ys ≡ xs ++ y ∷ [] → y ≡ x → n ≡ length xs → IsNumbered xs ys x n
new_number xs ys x y n never are is at =
    subst (λ zs. IsNumbered xs zs x n) (sym (are ∙ ap (λ z. xs ++ z ∷ []) is)) (subst (IsNumbered xs (xs ++ x ∷ []) x) (sym at) (is_new never))
