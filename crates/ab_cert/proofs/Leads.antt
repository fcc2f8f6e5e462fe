-- How a part begins: each value of a part by a piece of its lead, and each lead a value.
use Rattle.std.proofs.Common.{◌≡◌, ◌<◌, ◌+◌, ◌^◌, ℕ, zero, suc, Bool, true, false, List, [], ◌∷◌, ◌++◌, length, map, codes, decimal, Option, Some, None, refl, sym, ap, ◌∙◌, subst, arith, inl, inr}
use Rattle.std.specs.List.{flat_map}
use Rattle.std.proofs.lemmas.List.{append-nil}
use Rattle.ab_cert.specs.declared.part.Part.{Part}
use Rattle.ab_cert.specs.Plain.{Ty, base, arrow, Detail, bare, with_type, with_level, Head, constant, logic, nominal, cell, index, Term, lam, spine, Terms, no_terms, one_more, list_of, terms_of, Field, name, label, flag, place, term, numbers, labels, replaces, Step}
use Rattle.ab_cert.specs.Tables.{Form, a_name, a_label, a_flag, a_place, a_term, some_numbers, some_labels, some_replaces, steps, form_of, form_at, forms_of, Kind, nothing, a_type, a_level, signs, value_at, IsCount, Each, IsList, IsSign, IsTerm, AreTerms, IsLabel, IsField, IsStep}
use Rattle.ab_cert.specs.Pieces.{type_pieces, detail_pieces, head_pieces, term_pieces, terms_pieces, label_piece, flag_piece, replace_pieces, list_pieces, field_pieces, variable_pieces}
use Rattle.ab_cert.specs.Grammar as grammar
use Rattle.ab_cert.specs.Grammar.{Lead, copies, part_of, step_rows, detail_parts, sign_rows, head_rows, term_rows, flag_rows, letter_rows, clause_parts, clause_rows, lead_of, IsLead, Val, IsVal, pieces_of}
use Rattle.ab_cert.proofs.Clean.{step_wide}
use Rattle.ab_cert.proofs.Parts.{Vals, AreVals, all_pieces, is_inside, are_inside, is_plain_part, list_vals, list_meet, list_vals_pieces, vals_list, vals_count, vals_each, vals_pieces, copies_inside}
use Rattle.ab_cert.proofs.Rows.{EachRow, row_of, sign_listed, sign_found, step_listed, step_found, forms_inside}

-- A VALUE IS BEGUN BY A PIECE
pub record Beginning (s : Part) (x : Val s) : Type 0 where
  pub piece : List ℕ
  pub kids : List Part
  pub lead : IsLead (lead_of s) piece kids
  pub inside : are_inside kids ≡ true
  pub values : Vals kids
  pub meet : AreVals kids values
  pub spelled : pieces_of s x ≡ piece ∷ all_pieces kids values

-- A PIECE AND THE VALUES BEHIND IT MAKE A VALUE
pub record Making (s : Part) (p : List ℕ) (kids : List Part) (vs : Vals kids) : Type 0 where
  pub value : Val s
  pub meets : IsVal s value
  pub spelled : pieces_of s value ≡ p ∷ all_pieces kids vs

abbrev pub Makes : Part → List ℕ → List Part → Type 0
Makes s p kids = (are_inside kids ≡ true) × ((vs : Vals kids) → AreVals kids vs → Making s p kids vs)

-- terms and lists of terms

terms_each : (ts : Terms) → AreTerms ts → Each IsTerm (list_of ts)
terms_each no_terms h = tt
terms_each (one_more t ts) h = (h.0, terms_each ts h.1)

terms_flat : (ts : Terms) → terms_pieces ts ≡ flat_map term_pieces (list_of ts)
terms_flat no_terms = refl
terms_flat (one_more t ts) = ap (λ q. term_pieces t ++ q) (terms_flat ts)

each_terms : (xs : List Term) → Each IsTerm xs → AreTerms (terms_of xs)
each_terms [] h = tt
each_terms (x ∷ xs) h = (h.0, each_terms xs h.1)

pub list_terms : (xs : List Term) → list_of (terms_of xs) ≡ xs
list_terms [] = refl
list_terms (x ∷ xs) = ap (λ q. x ∷ q) (list_terms xs)

pub flat_terms : (xs : List Term) → terms_pieces (terms_of xs) ≡ flat_map term_pieces xs
flat_terms [] = refl
flat_terms (x ∷ xs) = ap (λ q. term_pieces x ++ q) (flat_terms xs)

-- the fields of a step

record FieldsBegun (fs : List Field) : Type 0 where
  pub values : Vals (map part_of (map form_of fs))
  pub meet : AreVals (map part_of (map form_of fs)) values
  pub spelled : flat_map field_pieces fs ≡ all_pieces (map part_of (map form_of fs)) values

fields_begun : (fs : List Field) → Each IsField fs → FieldsBegun fs
fields_begun [] h = record { values = tt; meet = tt; spelled = refl }
fields_begun (name x ∷ fs) h = let r = fields_begun fs h.1 in record { values = (x, r.values); meet = (h.0, r.meet); spelled = ap (λ q. (x ∷ []) ++ q) r.spelled }
fields_begun (label x ∷ fs) h = let r = fields_begun fs h.1 in record { values = (x, r.values); meet = (h.0, r.meet); spelled = ap (λ q. (label_piece x ∷ []) ++ q) r.spelled }
fields_begun (flag x ∷ fs) h = let r = fields_begun fs h.1 in record { values = (x, r.values); meet = (h.0, r.meet); spelled = ap (λ q. (flag_piece x ∷ []) ++ q) r.spelled }
fields_begun (place x ∷ fs) h = let r = fields_begun fs h.1 in record { values = (x, r.values); meet = (h.0, r.meet); spelled = ap (λ q. (decimal x ∷ []) ++ q) r.spelled }
fields_begun (term x ∷ fs) h = let r = fields_begun fs h.1 in record { values = (x, r.values); meet = (h.0, r.meet); spelled = ap (λ q. term_pieces x ++ q) r.spelled }
fields_begun (numbers x ∷ fs) h = let r = fields_begun fs h.1 in record { values = (x, r.values); meet = (h.0, r.meet); spelled = ap (λ q. list_pieces (λ n. decimal n ∷ []) x ++ q) r.spelled }
fields_begun (labels x ∷ fs) h = let r = fields_begun fs h.1 in record { values = (x, r.values); meet = (h.0, r.meet); spelled = ap (λ q. list_pieces (λ l. label_piece l ∷ []) x ++ q) r.spelled }
fields_begun (replaces x ∷ fs) h = let r = fields_begun fs h.1 in record { values = (x, r.values); meet = (h.0, r.meet); spelled = ap (λ q. list_pieces replace_pieces x ++ q) r.spelled }

record FieldsMade (forms : List Form) (vs : Vals (map part_of forms)) : Type 0 where
  pub fields : List Field
  pub meet : Each IsField fields
  pub forms_are : map form_of fields ≡ forms
  pub spelled : flat_map field_pieces fields ≡ all_pieces (map part_of forms) vs

field_made : (f : Form) (fs : List Form) (v : Val (part_of f)) (vs : Vals (map part_of fs)) (x : Field) → IsField x → form_of x ≡ f → field_pieces x ≡ pieces_of (part_of f) v → FieldsMade fs vs → FieldsMade (f ∷ fs) (v, vs)
field_made f fs v vs x h e p r = record {
  fields = x ∷ r.fields;
  meet = (h, r.meet);
  forms_are = ap (λ q. q ∷ map form_of r.fields) e ∙ ap (λ q. f ∷ q) r.forms_are;
  spelled = ap (λ q. q ++ flat_map field_pieces r.fields) p ∙ ap (λ q. pieces_of (part_of f) v ++ q) r.spelled;
}

fields_made : (forms : List Form) (vs : Vals (map part_of forms)) → AreVals (map part_of forms) vs → FieldsMade forms vs
fields_made [] vs h = record { fields = []; meet = tt; forms_are = refl; spelled = refl }
fields_made (a_name ∷ fs) vs h = field_made a_name fs vs.0 vs.1 (name vs.0) h.0 refl refl (fields_made fs vs.1 h.1)
fields_made (a_label ∷ fs) vs h = field_made a_label fs vs.0 vs.1 (label vs.0) h.0 refl refl (fields_made fs vs.1 h.1)
fields_made (a_flag ∷ fs) vs h = field_made a_flag fs vs.0 vs.1 (flag vs.0) tt refl refl (fields_made fs vs.1 h.1)
fields_made (a_place ∷ fs) vs h = field_made a_place fs vs.0 vs.1 (place vs.0) h.0 refl refl (fields_made fs vs.1 h.1)
fields_made (a_term ∷ fs) vs h = field_made a_term fs vs.0 vs.1 (term vs.0) h.0 refl refl (fields_made fs vs.1 h.1)
fields_made (some_numbers ∷ fs) vs h = field_made some_numbers fs vs.0 vs.1 (numbers vs.0) h.0 refl refl (fields_made fs vs.1 h.1)
fields_made (some_labels ∷ fs) vs h = field_made some_labels fs vs.0 vs.1 (labels vs.0) h.0 refl refl (fields_made fs vs.1 h.1)
fields_made (some_replaces ∷ fs) vs h = field_made some_replaces fs vs.0 vs.1 (replaces vs.0) h.0 refl refl (fields_made fs vs.1 h.1)

-- TAKING A VALUE APART

begin_none : (s : Part) (x : Val s) (p : List ℕ) → IsLead (lead_of s) p [] → pieces_of s x ≡ p ∷ [] → Beginning s x
begin_none s x p l e = record { piece = p; kids = []; lead = l; inside = refl; values = tt; meet = tt; spelled = e }

begin_list : (s part : Part) → is_inside s ≡ true → (x : Val part) (xs : List (Val s)) → IsList (IsVal s) xs → IsLead (lead_of part) (decimal (length xs)) (copies (length xs) s) → pieces_of part x ≡ list_pieces (pieces_of s) xs → Beginning part x
begin_list s part i x xs h l e = record {
  piece = decimal (length xs);
  kids = copies (length xs) s;
  lead = l;
  inside = copies_inside s (length xs) i;
  values = list_vals s xs;
  meet = list_meet s xs h.1;
  spelled = e ∙ ap (λ q. decimal (length xs) ∷ q) (list_vals_pieces s xs);
}

begin_label : (x : Option (List ℕ)) → IsLabel x → Beginning Part.Label x
begin_label None h = begin_none Part.Label None (codes "-") (inl (refl, refl)) refl
begin_label (Some x) h = begin_none Part.Label (Some x) x (inr (h, refl)) refl

begin_flag : (x : Bool) → Beginning Part.Flag x
begin_flag false = begin_none Part.Flag false (codes "0") refl refl
begin_flag true = begin_none Part.Flag true (codes "1") refl refl

begin_letter : (x : Bool) → Beginning Part.Letter x
begin_letter true = begin_none Part.Letter true (codes "i") refl refl
begin_letter false = begin_none Part.Letter false (codes "c") refl refl

begin_type : (x : Ty) → IsVal Part.Type x → Beginning Part.Type x
begin_type (base k) h = begin_none Part.Type (base k) k (inr (h, refl)) refl
begin_type (arrow a b) h = record {
  piece = codes ">";
  kids = Part.Type ∷ (Part.Type ∷ []);
  lead = inl (refl, refl);
  inside = refl;
  values = (a, (b, tt));
  meet = (h.0, (h.1, tt));
  spelled = ap (λ q. codes ">" ∷ (type_pieces a ++ q)) (sym (append-nil (type_pieces b)));
}

begin_term : (x : Term) → IsTerm x → Beginning Part.Term x
begin_term (lam ty hint body) h = record {
  piece = codes "\\";
  kids = Part.Type ∷ (Part.Name ∷ (Part.Term ∷ []));
  lead = refl;
  inside = refl;
  values = (ty, (hint, (body, tt)));
  meet = (h.0, (h.1, (h.2, tt)));
  spelled = ap (λ q. codes "\\" ∷ (type_pieces ty ++ hint ∷ q)) (sym (append-nil (term_pieces body)));
}
begin_term (spine head args) h = record {
  piece = codes "@";
  kids = Part.Head ∷ (Part.Args ∷ []);
  lead = refl;
  inside = refl;
  values = (head, (list_of args, tt));
  meet = (h.0, ((h.1, terms_each args h.2), tt));
  spelled = ap (λ q. codes "@" ∷ (head_pieces head ++ decimal (length (list_of args)) ∷ q)) (terms_flat args ∙ sym (append-nil (flat_map term_pieces (list_of args))));
}

begin_head : (x : Head) → IsVal Part.Head x → Beginning Part.Head x
begin_head (constant c) h = record { piece = codes "c"; kids = Part.Name ∷ []; lead = refl; inside = refl; values = (c, tt); meet = (h, tt); spelled = refl }
begin_head (logic s) h = record {
  piece = codes "l";
  kids = Part.Sign ∷ [];
  lead = refl;
  inside = refl;
  values = (s, tt);
  meet = (h, tt);
  spelled = ap (λ q. codes "l" ∷ (s.word ∷ q)) (sym (append-nil (detail_pieces s.detail)));
}
begin_head (nominal n ty) h = record {
  piece = codes "n";
  kids = Part.Long ∷ (Part.Type ∷ []);
  lead = refl;
  inside = refl;
  values = (n, (ty, tt));
  meet = (h.0, (h.1, tt));
  spelled = ap (λ q. codes "n" ∷ (decimal n ∷ q)) (sym (append-nil (type_pieces ty)));
}
begin_head (cell c) h = record { piece = codes "v"; kids = Part.Name ∷ []; lead = refl; inside = refl; values = (c, tt); meet = (h, tt); spelled = refl }
begin_head (index i) h = record { piece = codes "i"; kids = Part.Place ∷ []; lead = refl; inside = refl; values = (i, tt); meet = (h, tt); spelled = refl }

begin_sign_by : (w : List ℕ) (d : Detail) → IsSign (record { word = w; detail = d }) → Beginning Part.Sign (record { word = w; detail = d })
begin_sign_by w bare h = begin_none Part.Sign (record { word = w; detail = bare }) w (sign_listed signs w nothing h.known) refl
begin_sign_by w (with_type ty) h = record {
  piece = w;
  kids = Part.Type ∷ [];
  lead = sign_listed signs w a_type h.known;
  inside = refl;
  values = (ty, tt);
  meet = (h.detail, tt);
  spelled = ap (λ q. w ∷ q) (sym (append-nil (type_pieces ty)));
}
begin_sign_by w (with_level n) h = record {
  piece = w;
  kids = Part.Long ∷ [];
  lead = sign_listed signs w a_level h.known;
  inside = refl;
  values = (n, tt);
  meet = (h.detail, tt);
  spelled = refl;
}

step_lead_by : (n : ℕ) (forms : List Form) → n < 10 ^ 64 → forms_of n ≡ Some forms → value_at (step_rows 1 steps) (decimal n) ≡ Some (map part_of forms)
step_lead_by zero forms l e = cc
step_lead_by (suc i) forms l e =
    let shift : i + 1 ≡ suc i = omega arith in
    ap (λ k. value_at (step_rows 1 steps) (decimal k)) (sym shift) ∙ step_listed 1 i steps forms (omega (arith, l)) e

begin_step : (x : Step) → IsStep x → Beginning Part.Step x
begin_step x h =
    let f = fields_begun x.fields h.fields in
    record {
      piece = decimal x.number;
      kids = map part_of (map form_of x.fields);
      lead = step_lead_by x.number (map form_of x.fields) (step_wide x.number (map form_of x.fields) h.known) h.known;
      inside = forms_inside (map form_of x.fields);
      values = f.values;
      meet = f.meet;
      spelled = ap (λ q. decimal x.number ∷ q) f.spelled;
    }

pub begin : (s : Part) → is_plain_part s ≡ true → (x : Val s) → IsVal s x → Beginning s x
begin Part.Whole i x h = cc
begin Part.Version i x h = cc
begin Part.Items i x h = cc
begin Part.Clauses i x h = cc
begin Part.Proof i x h = cc
begin Part.Step i x h = begin_step x h
begin Part.Clause i x h = record {
  piece = codes "D";
  kids = clause_parts;
  lead = refl;
  inside = refl;
  values = (x.variables, (x.head, (x.body, tt)));
  meet = (h.0, (h.1, (h.2, tt)));
  spelled = ap (λ q. codes "D" ∷ (list_pieces variable_pieces x.variables ++ (term_pieces x.head ++ q))) (sym (append-nil (term_pieces x.body)));
}
begin Part.Name i x h = begin_none Part.Name x x (h, refl) refl
begin Part.Label i x h = begin_label x h
begin Part.Flag i x h = begin_flag x
begin Part.Letter i x h = begin_letter x
begin Part.Place i x h = begin_none Part.Place x (decimal x) (x, (h, (refl, refl))) refl
begin Part.Long i x h = begin_none Part.Long x (decimal x) (x, (h, (refl, refl))) refl
begin Part.Small i x h = begin_none Part.Small x (decimal x) (x, (h, (refl, refl))) refl
begin Part.Type i x h = begin_type x h
begin Part.Term i x h = begin_term x h
begin Part.Head i x h = begin_head x h
begin Part.Sign i x h = begin_sign_by x.word x.detail h
begin Part.Variable i x h = record {
  piece = x.name;
  kids = Part.Type ∷ [];
  lead = (h.0, refl);
  inside = refl;
  values = (x.ty, tt);
  meet = (h.1, tt);
  spelled = ap (λ q. x.name ∷ q) (sym (append-nil (type_pieces x.ty)));
}
begin Part.Replace i x h = record {
  piece = decimal x.number;
  kids = Part.Type ∷ (Part.Term ∷ []);
  lead = (x.number, (h.0, (refl, refl)));
  inside = refl;
  values = (x.ty, (x.to, tt));
  meet = (h.1, (h.2, tt));
  spelled = ap (λ q. decimal x.number ∷ (type_pieces x.ty ++ q)) (sym (append-nil (term_pieces x.to)));
}
begin Part.Args i x h = begin_list Part.Term Part.Args refl x x h (length x, (h.0, (refl, refl))) refl
begin Part.Names i x h = begin_list Part.Name Part.Names refl x x h (length x, (h.0, (refl, refl))) refl
begin Part.Labels i x h = begin_list Part.Label Part.Labels refl x x h (length x, (h.0, (refl, refl))) refl
begin Part.Numbers i x h = begin_list Part.Small Part.Numbers refl x x h (length x, (h.0, (refl, refl))) refl
begin Part.Variables i x h = begin_list Part.Variable Part.Variables refl x x h (length x, (h.0, (refl, refl))) refl
begin Part.Replaces i x h = begin_list Part.Replace Part.Replaces refl x x h (length x, (h.0, (refl, refl))) refl

-- PUTTING A VALUE TOGETHER

at_kids : (s : Part) (p : List ℕ) (cs ks : List Part) → cs ≡ ks → Makes s p ks → Makes s p cs
at_kids s p cs ks e m = subst (λ q. Makes s p q) (sym e) m

at_both : (s : Part) (p q : List ℕ) (cs ks : List Part) → p ≡ q → cs ≡ ks → Makes s q ks → Makes s p cs
at_both s p q cs ks f e m = subst (λ r. Makes s r cs) (sym f) (at_kids s q cs ks e m)

make_one : (s : Part) (p : List ℕ) (x : Val s) → IsVal s x → pieces_of s x ≡ p ∷ [] → Makes s p []
make_one s p x h e = (refl, λ vs m. record { value = x; meets = h; spelled = e })

make_list : (s part : Part) → is_inside s ≡ true → (put : List (Val s) → Val part) → ((xs : List (Val s)) → IsList (IsVal s) xs → IsVal part (put xs)) → ((xs : List (Val s)) → pieces_of part (put xs) ≡ list_pieces (pieces_of s) xs)
    → (n : ℕ) → IsCount n → Makes part (decimal n) (copies n s)
make_list s part i put meets spelled n l = (
  copies_inside s n i,
  λ vs m.
      let xs = vals_list s n vs in
      let count = vals_count s n vs in
      record {
        value = put xs;
        meets = meets xs (subst IsCount (sym count) l, vals_each s n vs m);
        spelled = spelled xs ∙ (ap (λ k. decimal k ∷ flat_map (pieces_of s) xs) count ∙ ap (λ q. decimal n ∷ q) (vals_pieces s n vs));
      },
)

by_number : (s : Part) (p : List ℕ) (cs : List Part) (limit : ℕ) (after : ℕ → List Part) → IsLead (grammar.numbers limit after) p cs → ((n : ℕ) → n < limit → Makes s (decimal n) (after n)) → Makes s p cs
by_number s p cs limit after h m = at_both s p (decimal h.0) cs (after h.0) h.1.1.0 h.1.1.1 (m h.0 h.1.0)

make_label : (p : List ℕ) (cs : List Part) → IsLead (lead_of Part.Label) p cs → Makes Part.Label p cs
make_label p cs (inl h) = at_both Part.Label p (codes "-") cs [] h.0 h.1 (make_one Part.Label (codes "-") None tt refl)
make_label p cs (inr h) = at_kids Part.Label p cs [] h.1 (make_one Part.Label p (Some p) h.0 refl)

make_type : (p : List ℕ) (cs : List Part) → IsLead (lead_of Part.Type) p cs → Makes Part.Type p cs
make_type p cs (inl h) = at_both Part.Type p (codes ">") cs (Part.Type ∷ (Part.Type ∷ [])) h.0 h.1 (
  refl,
  λ vs m. record {
    value = arrow vs.0 vs.1.0;
    meets = (m.0, m.1.0);
    spelled = ap (λ q. codes ">" ∷ (type_pieces vs.0 ++ q)) (sym (append-nil (type_pieces vs.1.0)));
  },
)
make_type p cs (inr h) = at_kids Part.Type p cs [] h.1 (make_one Part.Type p (base p) h.0 refl)

make_sign_by : (w : List ℕ) (k : Kind) → value_at signs w ≡ Some k → Makes Part.Sign w (detail_parts k)
make_sign_by w nothing e = make_one Part.Sign w (record { word = w; detail = bare }) (record { known = e; detail = tt }) refl
make_sign_by w a_type e = (
  refl,
  λ vs m. record {
    value = record { word = w; detail = with_type vs.0 };
    meets = record { known = e; detail = m.0 };
    spelled = ap (λ q. w ∷ q) (sym (append-nil (type_pieces vs.0)));
  },
)
make_sign_by w a_level e = (refl, λ vs m. record { value = record { word = w; detail = with_level vs.0 }; meets = record { known = e; detail = m.0 }; spelled = refl })

make_step_by : (i : ℕ) (forms : List Form) → form_at steps i ≡ Some forms → Makes Part.Step (decimal (i + 1)) (map part_of forms)
make_step_by i forms e = (
  forms_inside forms,
  λ vs m.
      let f = fields_made forms vs m in
      let shift : i + 1 ≡ suc i = omega arith in
      record {
        value = record { number = suc i; fields = f.fields };
        meets = record { known = e ∙ ap (λ q. Some q) (sym f.forms_are); fields = f.meet };
        spelled = ap (λ k. decimal k ∷ flat_map field_pieces f.fields) (sym shift) ∙ ap (λ q. decimal (i + 1) ∷ q) f.spelled;
      },
)

make_head_rows : EachRow (Makes Part.Head) head_rows
make_head_rows = (
  (refl, λ vs m. record { value = constant vs.0; meets = m.0; spelled = refl }),
  (
    (refl, λ vs m. record { value = logic vs.0; meets = m.0; spelled = ap (λ q. codes "l" ∷ (vs.0.word ∷ q)) (sym (append-nil (detail_pieces vs.0.detail))) }),
    (
      (refl, λ vs m. record { value = nominal vs.0 vs.1.0; meets = (m.0, m.1.0); spelled = ap (λ q. codes "n" ∷ (decimal vs.0 ∷ q)) (sym (append-nil (type_pieces vs.1.0))) }),
      (
        (refl, λ vs m. record { value = cell vs.0; meets = m.0; spelled = refl }),
        (
          (refl, λ vs m. record { value = index vs.0; meets = m.0; spelled = refl }),
          tt,
        ),
      ),
    ),
  ),
)

make_term_rows : EachRow (Makes Part.Term) term_rows
make_term_rows = (
  (
    refl,
    λ vs m. record {
      value = lam vs.0 vs.1.0 vs.1.1.0;
      meets = (m.0, m.1.0, m.1.1.0);
      spelled = ap (λ q. codes "\\" ∷ (type_pieces vs.0 ++ vs.1.0 ∷ q)) (sym (append-nil (term_pieces vs.1.1.0)));
    },
  ),
  (
    (
      refl,
      λ vs m. record {
        value = spine vs.0 (terms_of vs.1.0);
        meets = (m.0, subst (λ q. IsCount (length q)) (sym (list_terms vs.1.0)) m.1.0.0, each_terms vs.1.0 m.1.0.1);
        spelled = ap (λ q. codes "@" ∷ (head_pieces vs.0 ++ decimal (length q) ∷ terms_pieces (terms_of vs.1.0))) (list_terms vs.1.0)
            ∙ ap (λ q. codes "@" ∷ (head_pieces vs.0 ++ decimal (length vs.1.0) ∷ q)) (flat_terms vs.1.0 ∙ sym (append-nil (flat_map term_pieces vs.1.0)));
      },
    ),
    tt,
  ),
)

pub make : (s : Part) → is_plain_part s ≡ true → (p : List ℕ) (cs : List Part) → IsLead (lead_of s) p cs → Makes s p cs
make Part.Whole i p cs h = cc
make Part.Version i p cs h = cc
make Part.Items i p cs h = cc
make Part.Clauses i p cs h = cc
make Part.Proof i p cs h = cc
make Part.Step i p cs h =
    let f = step_found 1 steps p cs h in
    at_both Part.Step p (decimal (f.at + 1)) cs (map part_of f.forms) f.piece f.kids (make_step_by f.at f.forms f.known)
make Part.Clause i p cs h = row_of (Makes Part.Clause) clause_rows p cs (
  (
    refl,
    λ vs m. record {
      value = record { variables = vs.0; head = vs.1.0; body = vs.1.1.0 };
      meets = (m.0, m.1.0, m.1.1.0);
      spelled = ap (λ q. codes "D" ∷ (list_pieces variable_pieces vs.0 ++ (term_pieces vs.1.0 ++ q))) (sym (append-nil (term_pieces vs.1.1.0)));
    },
  ),
  tt,
) h
make Part.Name i p cs h = at_kids Part.Name p cs [] h.1 (make_one Part.Name p p h.0 refl)
make Part.Label i p cs h = make_label p cs h
make Part.Flag i p cs h = row_of (Makes Part.Flag) flag_rows p cs (make_one Part.Flag (codes "0") false tt refl, (make_one Part.Flag (codes "1") true tt refl, tt)) h
make Part.Letter i p cs h = row_of (Makes Part.Letter) letter_rows p cs (make_one Part.Letter (codes "i") true tt refl, (make_one Part.Letter (codes "c") false tt refl, tt)) h
make Part.Place i p cs h = by_number Part.Place p cs (2 ^ 64) (λ n. []) h (λ n l. make_one Part.Place (decimal n) n l refl)
make Part.Long i p cs h = by_number Part.Long p cs (10 ^ 30) (λ n. []) h (λ n l. make_one Part.Long (decimal n) n l refl)
make Part.Small i p cs h = by_number Part.Small p cs (2 ^ 32) (λ n. []) h (λ n l. make_one Part.Small (decimal n) n l refl)
make Part.Type i p cs h = make_type p cs h
make Part.Term i p cs h = row_of (Makes Part.Term) term_rows p cs make_term_rows h
make Part.Head i p cs h = row_of (Makes Part.Head) head_rows p cs make_head_rows h
make Part.Sign i p cs h = let f = sign_found signs p cs h in at_kids Part.Sign p cs (detail_parts f.0) f.1.1 (make_sign_by p f.0 f.1.0)
make Part.Variable i p cs h = at_kids Part.Variable p cs (Part.Type ∷ []) h.1 (
  refl,
  λ vs m. record {
    value = record { name = p; ty = vs.0 };
    meets = (h.0, m.0);
    spelled = ap (λ q. p ∷ q) (sym (append-nil (type_pieces vs.0)));
  },
)
make Part.Replace i p cs h = by_number Part.Replace p cs (10 ^ 30) (λ n. Part.Type ∷ (Part.Term ∷ [])) h (λ n l. (
  refl,
  λ vs m. record {
    value = record { number = n; ty = vs.0; to = vs.1.0 };
    meets = (l, m.0, m.1.0);
    spelled = ap (λ q. decimal n ∷ (type_pieces vs.0 ++ q)) (sym (append-nil (term_pieces vs.1.0)));
  },
))
make Part.Args i p cs h = by_number Part.Args p cs (2 ^ 64) (λ n. copies n Part.Term) h (make_list Part.Term Part.Args refl (λ x. x) (λ x m. m) (λ x. refl))
make Part.Names i p cs h = by_number Part.Names p cs (2 ^ 64) (λ n. copies n Part.Name) h (make_list Part.Name Part.Names refl (λ x. x) (λ x m. m) (λ x. refl))
make Part.Labels i p cs h = by_number Part.Labels p cs (2 ^ 64) (λ n. copies n Part.Label) h (make_list Part.Label Part.Labels refl (λ x. x) (λ x m. m) (λ x. refl))
make Part.Numbers i p cs h = by_number Part.Numbers p cs (2 ^ 64) (λ n. copies n Part.Small) h (make_list Part.Small Part.Numbers refl (λ x. x) (λ x m. m) (λ x. refl))
make Part.Variables i p cs h = by_number Part.Variables p cs (2 ^ 64) (λ n. copies n Part.Variable) h (make_list Part.Variable Part.Variables refl (λ x. x) (λ x m. m) (λ x. refl))
make Part.Replaces i p cs h = by_number Part.Replaces p cs (2 ^ 64) (λ n. copies n Part.Replace) h (make_list Part.Replace Part.Replaces refl (λ x. x) (λ x m. m) (λ x. refl))
