-- WHAT CAN'T BE: that something is a member of `nil`, on the right of a conjunction and under `exists`. Where it is a hypothesis all is derived; so
-- all is derived where it is proved, since no clause gives it.
use Rattle.std.specs.Prelude.{true, Contains}
use Rattle.std.proofs.Common.{◌≡◌, inl, inr, ℕ, zero, suc, ◌≤◌, List, [], ◌∷◌, codes, Some, None, option_map, refl, sym, ◌∙◌, ap, subst, arith}
use Rattle.std.proofs.lemmas.Bool.{false≢true}
use Rattle.std.proofs.lemmas.Slice.Eq.{bytes_eq-Decides}
use Rattle.ab_term.specs.Types.{Ty, prop}
use Rattle.ab_term.specs.Logical as plain
use Rattle.ab_term.specs.Logical.{Logical}
use Rattle.ab_term.specs.Terms as tree
use Rattle.ab_term.specs.Terms.{Nominal, constant, logical, nominal, variable, index, lam, spine, Terms, no_terms, term, Read}
use Rattle.ab_term.specs.Names.{permute, moved_by, EqualUpToNames}
use Rattle.ab_term.specs.Typing.{Signature, HasType}
use Rattle.ab_term.specs.Variables.{Substitution, image}
use Rattle.ab_term.specs.Sameness.{same_number}
use Rattle.ab_term.specs.Translation.{forget, forget_all, EqualPastHints}
use Rattle.ab_term.specs.Substitution.{shift, substitute, instance}
use Rattle.ab_term.proofs.Lists.{Contains-none, Contains-cases}
use Rattle.ab_unifiers.specs.Clauses.{Clause, filled, head_of}
use Rattle.ab_unifiers.specs.Member.{HasMember, member_first, member_later, member_clauses}
use Rattle.ab_formulas.specs.BodyMarks.{with_mark}
use Rattle.ab_formulas.specs.Declarations.{Declarations, Block, HaveSentences, HaveDefinitions, signature_in}
use Rattle.ab_formulas.specs.Formulas.{a_formula, StandsIn}
use Rattle.ab_formulas.specs.Forms.{Form, truth, equal, both, either, implies, for_all, exists, nabla, other, form_of}
use Rattle.ab_formulas.specs.Marks as marks
use Rattle.ab_formulas.specs.Marks.{Sign, star_of, at_of, plus_of, hash_of, Serves, marks_of, MarksServe, MarksServeIn, erased}
use Rattle.ab_formulas.specs.Programs.{HavePrograms}
use Rattle.ab_theory.specs.Atoms.{Defined}
use Rattle.ab_theory.specs.Judgements.{Judgement, as_judgement, marked_focus}
use Rattle.ab_theory.specs.Opening as opening
use Rattle.ab_theory.specs.SpecRules.{is_nil, some_item}
use Rattle.ab_search_trees.specs.Judgements.{opened_once}
use Rattle.ab_search_trees.proofs.Forms.{begins_constant}
use Rattle.ab_search_proofs.specs.Likeness.{StandIn, AreLike}
use Rattle.ab_search_proofs.specs.Proved.{IsByClause}
use Rattle.ab_search_proofs.proofs.Connectives.{same_option}
use Rattle.ab_search_proofs.proofs.Derived.{after, no_premise}
use Rattle.ab_search_proofs.proofs.OpenedAlike.{arguments_of, rest_of}
use Rattle.ab_search_proofs.proofs.Renamed.{rename-erased, rename_stands, marks_of-rename}
use Rattle.ab_search_proofs.proofs.Served.{like_hypothesis}
use Rattle.ab_search_layers.specs.Layered.{MemberIsDefined, Layered, by_truth, by_hypothesis, by_equality, by_both, by_left, by_right, by_assuming, by_constant, by_term, by_variable, by_layer, by_clause, by_rule, by_empty_list}
use Rattle.ab_search_layers.proofs.NoMember.{in_nil, member_of_nil, like_in_nil, nothing_step}
use Rattle.ab_search_layers.proofs.Putting.{all_any, keeps}
use Rattle.ab_search_layers.proofs.Suiting.{IsLeaf, leaf_both, leaf_exists, leaf_put}
use Rattle.ab_search_layers.proofs.SuitingJudgements.{analysed}
use Rattle.ab_search_layers.proofs.TakenOut.{taken_out, with_other_constants}
use Rattle.ab_search_layers.proofs.Through.{Derived, both_left_through, exists_left_through}

pub data IsVoid : ℕ → Read → Type 0 where
  of_nothing : {t : Read} {us : Terms ℕ (List ℕ)} → IsVoid zero (spine (constant (codes "member")) (in_nil t us))
  on_the_right : {n : ℕ} {F G : Read} → StandsIn a_formula F → IsVoid n G → IsVoid (suc n) (opening.both F G)
  under : {n : ℕ} {A B : Ty} {x : List ℕ} {F : Read} → IsVoid n F → IsVoid (suc n) (spine (logical (plain.existential A)) (term (lam B x F) no_terms))

void_stands : {n : ℕ} {C : Read} → IsVoid n C → StandsIn a_formula C
void_stands (of_nothing {t = t} {us = us}) = (tt, all_any (in_nil t us))
void_stands (on_the_right s v) = (tt, (s, (void_stands v, tt)))
void_stands (under v) = (tt, (void_stands v, tt))

void_put : (A : Ty) (u : Read) (k : ℕ) {n : ℕ} {C : Read} → IsVoid n C → IsVoid n (substitute A u k C)
void_put A u k of_nothing = of_nothing
void_put A u k (on_the_right {F = F} s v) = on_the_right (keeps A u k F s).stands (void_put A u k v)
void_put A u k (under v) = under (void_put A (shift zero u) (suc k) v)

-- SOME FORMULA OF `nil`
focus_stands : (m : Sign) (L F A : Read) → StandsIn a_formula (marked_focus m L F A)
focus_stands marks.plain L F A = (tt, (tt, (tt, (tt, tt))))
focus_stands (star_of i) L F A = (tt, (tt, tt))
focus_stands (at_of i) L F A = (tt, (tt, tt))
focus_stands (plus_of i) L F A = (tt, (tt, tt))
focus_stands (hash_of i) L F A = (tt, (tt, tt))

pub void_list : (m : Sign) (L A : Read) → is_nil L ≡ true → (n : ℕ) × IsVoid n (some_item m L A)
void_list m (spine (constant c) ts) A e =
    let same : c ≡ codes "nil" = (bytes_eq-Decides c (codes "nil")).0 e in
    subst (λ b. (n : ℕ) × IsVoid n (some_item m (spine (constant b) ts) A)) (sym same) (2, under (on_the_right (focus_stands m _ _ _) of_nothing))
void_list m (lam B x t) A e = absurd (false≢true e)
void_list m (spine (logical l) ts) A e = absurd (false≢true e)
void_list m (spine (nominal a) ts) A e = absurd (false≢true e)
void_list m (spine (variable y) ts) A e = absurd (false≢true e)
void_list m (spine (index i) ts) A e = absurd (false≢true e)

-- A HYPOTHESIS LIKE IT, with a mark that serves
record IsMemberOfNil (B : Read) : Type 0 where
  pub sign : Sign
  pub element : Read
  pub arguments : Terms ℕ (List ℕ)
  pub is : B ≡ member_of_nil sign element arguments
  pub serves : Serves marks.plain sign

module _ (sg : Signature) (t : Read) (us : Terms ℕ (List ℕ)) where
  abbrev Atom : Read
  Atom = spine (constant (codes "member")) (in_nil t us)

  with_sign : (m : Sign) (E : Read) → forget E ≡ forget Atom → MarksServeIn Atom (with_mark m E) → IsMemberOfNil (with_mark m E)
  with_sign m E e s =
      let b = begins_constant (codes "member") (forget_all (in_nil t us)) E (sym e) in
      let k = like_in_nil (forget_all us) (forget t) b.0 b.2 in
      let whole : E ≡ spine (constant (codes "member")) (in_nil k.0 k.1) = b.1 ∙ ap (spine (constant (codes "member"))) k.2 in
      record { sign = m; element = k.0; arguments = k.1; is = ap (with_mark m) whole; serves = at m b.0 (subst (λ z. MarksServeIn Atom (with_mark m z)) b.1 s) }
    where
      at : (m : Sign) (vs : Terms ℕ (List ℕ)) → MarksServeIn Atom (with_mark m (spine (constant (codes "member")) vs)) → Serves marks.plain m
      at marks.plain vs s = tt
      at (star_of i) vs s = s
      at (at_of i) vs s = s
      at (plus_of i) vs s = s
      at (hash_of i) vs s = s

  logical_atom : (l : Logical) (ts : Terms ℕ (List ℕ)) → HasType sg [] (spine (logical l) ts) prop → forget (erased (spine (logical l) ts)) ≡ forget Atom → MarksServeIn Atom (spine (logical l) ts) → IsMemberOfNil (spine (logical l) ts)
  logical_atom (plain.star i) (term E no_terms) d e s = with_sign (star_of i) E e s
  logical_atom (plain.star i) (term E (term v ts)) d e s = let bad = rest_of sg (arguments_of sg (plain.star i) d) in elim bad [ ]
  logical_atom (plain.at_sign i) (term E no_terms) d e s = with_sign (at_of i) E e s
  logical_atom (plain.at_sign i) (term E (term v ts)) d e s = let bad = rest_of sg (arguments_of sg (plain.at_sign i) d) in elim bad [ ]
  logical_atom (plain.plus i) (term E no_terms) d e s = with_sign (plus_of i) E e s
  logical_atom (plain.plus i) (term E (term v ts)) d e s = let bad = rest_of sg (arguments_of sg (plain.plus i) d) in elim bad [ ]
  logical_atom (plain.hash i) (term E no_terms) d e s = with_sign (hash_of i) E e s
  logical_atom (plain.hash i) (term E (term v ts)) d e s = let bad = rest_of sg (arguments_of sg (plain.hash i) d) in elim bad [ ]
  logical_atom _ ts d e s = absurd (cc)

  is_member : (B : Read) → HasType sg [] B prop → IsLeaf B Atom → IsMemberOfNil B
  is_member (lam A x b) d l = absurd l.stands
  is_member (spine (variable y) ts) d l = absurd (l.stands).0
  is_member (spine (index j) ts) d l = absurd (l.stands).0
  is_member (spine (nominal a) ts) d l = absurd (let e = l.same in cc)
  is_member (spine (constant c) ts) d l = with_sign marks.plain (spine (constant c) ts) l.same l.serve
  is_member (spine (logical k) ts) d l = logical_atom k ts d l.same l.serve

-- NO CLAUSE GIVES IT
head_clash : (r : Substitution ℕ (List ℕ)) (c : Clause (List ℕ)) → Contains member_clauses c → (p : List ℕ) (ts : Terms ℕ (List ℕ)) (t : Read) (us : Terms ℕ (List ℕ)) → ts ≡ in_nil t us → EqualPastHints (image same_number r (head_of c)) (spine (constant p) ts) → ⊥
head_clash r c m p ts t us a h = elim (Contains-cases member_first (member_later ∷ []) c m) [
  | inl e ↦ (let k : forget (image same_number r (head_of member_first)) ≡ forget (spine (constant p) (in_nil t us)) = ap (λ z. forget (image same_number r (head_of z))) e ∙ h ∙ ap (λ z. forget (spine (constant p) z)) a in cc)
  | inr n ↦ elim (Contains-cases member_later [] c n) [
    | inl e ↦ (let k : forget (image same_number r (head_of member_later)) ≡ forget (spine (constant p) (in_nil t us)) = ap (λ z. forget (image same_number r (head_of z))) e ∙ h ∙ ap (λ z. forget (spine (constant p) z)) a in cc)
    | inr k ↦ Contains-none c k
  ]
]

pub no_clause : (D : Declarations) → MemberIsDefined D → {n : ℕ} {C : Read} → IsVoid n C → (ys : List (tree.Variable ℕ)) (d : Defined) (c : Clause (List ℕ)) (us : List Read) (ns : List Nominal) → IsByClause D ys C d c us ns → ⊥
no_clause D defined (on_the_right s v) ys d c us ns i = let e = i.atom in cc
no_clause D defined (under v) ys d c us ns i = let e = i.atom in cc
no_clause D defined (of_nothing {t = t} {us = ws}) ys d c us ns i =
    let whole : Defined = record { sign = marks.plain; predicate = codes "member"; arguments = in_nil t ws; block = defined.block } in
    let same : whole ≡ d = same_option (sym (ap (option_map (λ (b : Block). record { sign = marks.plain; predicate = codes "member"; arguments = in_nil t ws; block = b })) defined.found) ∙ i.atom) in
    let one : Contains member_clauses c = subst (λ cs. Contains cs c) (sym (ap (λ (k : Defined). k.block.clauses) same) ∙ defined.clauses) i.one in
    head_clash (filled (codes "x") c us ns) c one d.predicate d.arguments t ws (sym (ap (λ (k : Defined). k.arguments) same)) i.head

-- BY ITS FORM
abbrev FormVoid : Read → Form → Type 0
FormVoid C (both A B) = (n : ℕ) × IsVoid n B
FormVoid C (exists A F) = (t : Read) → (n : ℕ) × IsVoid n (instance F t)
FormVoid C other = (opened_once C ≡ None) × (as_judgement C ≡ None)
FormVoid C _ = ⊥

form_void : {n : ℕ} {C : Read} → IsVoid n C → FormVoid C (form_of C)
form_void of_nothing = (refl, refl)
form_void (on_the_right {n = n} s v) = (n, v)
form_void (under {n = n} {B = B} v) = λ t. (n, void_put B t zero v)

pub seen_void : (k : Form) {n : ℕ} {C : Read} → IsVoid n C → form_of C ≡ k → FormVoid C k
seen_void k {C = C} v e = subst (FormVoid C) e (form_void v)

pub never_judged : {n : ℕ} {C : Read} → IsVoid n C → (j : Judgement) → as_judgement C ≡ Some j → ⊥
never_judged of_nothing j e = cc
never_judged (on_the_right s v) j e = cc
never_judged (under v) j e = cc

module _ (D : Declarations) (sentences : HaveSentences D) (definitions : HaveDefinitions D) (programs : HavePrograms D) (has : HasMember (signature_in D)) (defined : MemberIsDefined D) where
  abbrev Goal : List StandIn → List Read → Read → Type 0
  Goal vs Hs C = Derived D sentences definitions programs has vs Hs C

  -- WHERE IT IS A HYPOTHESIS all is derived
  void_hypothesis : (N : ℕ) {n : ℕ} {B C : Read} → n ≤ N → IsVoid n C → IsLeaf B C → (vs : List StandIn) (Hs : List Read) (K : Read) → Contains Hs B → Goal vs Hs K
  void_hypothesis N {B = B} le (of_nothing {t = t} {us = us}) l vs Hs K m = λ s is g.
      let o = taken_out D vs Hs K B s is g m in
      let k = is_member (signature_in D) t us B (o.like).formula.typed l in
      let there = subst (λ z. Contains Hs z) k.is m in
      let out = taken_out D vs Hs K (member_of_nil k.sign k.element k.arguments) s is g there in
      let step = nothing_step D defined vs Hs K s k.sign k.element k.arguments out (analysed k.sign k.serves).0 in
      after D sentences definitions programs has (AreLike D vs Hs []) step.0 s is step.1 step.2 (λ ps q j. no_premise D sentences definitions programs has vs Hs ps q)
  void_hypothesis zero le (on_the_right s v) l vs Hs K m = absurd (omega (arith, le))
  void_hypothesis (suc N) {B = B} le (on_the_right {F = F} {G = G} s v) l vs Hs K m =
      let p = leaf_both B F G l in
      both_left_through D sentences definitions programs has vs Hs (opening.both p.0 p.1) K p.0 p.1 refl (subst (Contains Hs) p.2 m) (λ Rs e f. void_hypothesis N (omega (arith, le)) v p.4 vs Rs K f)
  void_hypothesis zero le (under v) l vs Hs K m = absurd (omega (arith, le))
  void_hypothesis (suc N) {B = B} le (under {A = C} {B = A} {x = x} {F = F} v) l vs Hs K m =
      let p = leaf_exists C A x B F l in
      exists_left_through D sentences definitions programs has vs Hs (spine (logical (plain.existential C)) (term (lam A p.0 p.1) no_terms)) K (lam A p.0 p.1) C refl (subst (Contains Hs) p.2 m)
      (λ t free typed w known Rs c. void_hypothesis N (omega (arith, le)) (void_put A t zero v) (leaf_put A t zero p.3) (w ∷ vs) Rs K c)

  -- so where one like it is
  pub void_assumed : {n : ℕ} {C : Read} → IsVoid n C → (vs : List StandIn) (Hs : List Read) (B K : Read) → Contains Hs B → EqualUpToNames (erased B) (erased C) → MarksServeIn C B → Goal vs Hs K
  void_assumed {n} {C} v vs Hs B K m (ps, table, same) serves s is l =
      let h = like_hypothesis D vs Hs s.hypotheses B l.hypotheses m in
      let r = with_other_constants D vs ps table Hs K B s l m in
      let leaf : IsLeaf (permute ps B) C = record {
        stands = rename_stands (moved_by ps) a_formula B (h.2).formula.stands;
        stands_there = void_stands v;
        same = ap forget (sym (rename-erased (moved_by ps) B)) ∙ same;
        serve = subst (MarksServe (marks_of C)) (sym (marks_of-rename (moved_by ps) B)) serves;
      } in
      void_hypothesis n (omega arith) v leaf vs r.0 K r.1 s is r.2

  -- WHERE IT IS PROVED
  pub void_proved : (ys : List (tree.Variable ℕ)) (Hs : List Read) (C : Read) → Layered D ys Hs C → {n : ℕ} → IsVoid n C → (vs : List StandIn) (K : Read) → Goal vs Hs K
  void_proved ys Hs C (by_truth e) v vs K = absurd (seen_void truth v e)
  void_proved ys Hs C (by_hypothesis B m e serves) v vs K = void_assumed v vs Hs B K m e serves
  void_proved ys Hs C (by_equality {A = A} {t = t} {u = u} e same) v vs K = absurd (seen_void (equal A t u) v e)
  void_proved ys Hs C (by_both {A = A} {B = B} e a b) v vs K = void_proved ys Hs B b (seen_void (both A B) v e).1 vs K
  void_proved ys Hs C (by_left {A = A} {B = B} e a) v vs K = absurd (seen_void (either A B) v e)
  void_proved ys Hs C (by_right {A = A} {B = B} e b) v vs K = absurd (seen_void (either A B) v e)
  void_proved ys Hs C (by_assuming {A = A} {B = B} e b) v vs K = absurd (seen_void (implies A B) v e)
  void_proved ys Hs C (by_constant {F = F} {A = A} a e t out p) v vs K = absurd (seen_void (nabla A F) v e)
  void_proved ys Hs C (by_term {F = F} {A = A} t e typed known p) v vs K = void_proved ys Hs (instance F t) p (seen_void (exists A F) v e t).1 vs K
  void_proved ys Hs C (by_variable {F = F} {A = A} n e new p) v vs K = absurd (seen_void (for_all A F) v e)
  void_proved ys Hs C (by_layer {F = F} e once p) v vs K = absurd (let bad : None ≡ Some F = sym (seen_void other v e).0 ∙ once in cc)
  void_proved ys Hs C (by_clause d c us ns i p) v vs K = absurd (no_clause D defined v ys d c us ns i)
  void_proved ys Hs C (by_rule us B F none i down p) v vs K = absurd (never_judged v i.judgement i.is)
  void_proved ys Hs C (by_empty_list j is unfocused nil p) v vs K = absurd (never_judged v j is)
