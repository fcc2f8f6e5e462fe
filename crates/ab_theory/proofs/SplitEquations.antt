-- A case arises, or never does, or is open; and a goal is split into one list of goals, or can't be.
use Rattle.std.proofs.Common.{◌≡◌, ◌⊎◌, inl, inr, ℕ, List, [], ◌∷◌, ◌++◌, map, length, codes, refl, sym, ◌∙◌, ap, subst, append_assoc, append-nil}
use Rattle.std.specs.Prelude.{All}
use Rattle.std.proofs.lemmas.List.Elements.{All-nil, All-cons, All-head, All-tail, All-weaker}
use Rattle.ab_unifiers.specs.Replacements.{Cell}
use Rattle.ab_unifiers.specs.Unification.{Answer, unified, apart, stuck, Solves}
use Rattle.ab_unifiers.proofs.Unique.{unique}
use Rattle.ab_unifiers.proofs.Ending.{answered}
use Rattle.ab_formulas.specs.Declarations.{Declarations}
use Rattle.ab_formulas.specs.Sequents.{Sequent, IsSequent}
use Rattle.ab_formulas.specs.NewNames.{IsNoVariable}
use Rattle.ab_theory.specs.Equations.{Naming, Named, made, under}
use Rattle.ab_theory.specs.Splits.{Case, problem_of, cell_for, IsCase, Arises, NeverArises, IsOpen, CaseOver, IsCaseOver, Split, done, never, arises, IsUnsplit, here, past_never, past_goal}
use Rattle.ab_theory.proofs.Carried.{arising_is_sequent}
use Rattle.ab_theory.proofs.One.{GivesOne, named_once, named_more, named_always}

abbrev Cells : Type 0
Cells = List (Cell (List ℕ))

abbrev no_answer : Answer (List ℕ)
no_answer = apart

abbrev stuck_at : ℕ → Answer (List ℕ)
stuck_at i = stuck i

module _ (IsName : Naming) (c : Case) where
  pub arises_not_never : (after : Cells) (g : Sequent) → Arises IsName c after g → NeverArises c → ⊥
  arises_not_never after g a n = let same : unified a.more a.answer ≡ apart = unique (codes "x") a.solved n in absurd (cc)

  pub arises_not_open : (after : Cells) (g : Sequent) (i : ℕ) → Arises IsName c after g → IsOpen c i → ⊥
  arises_not_open after g i a o = let same : unified a.more a.answer ≡ stuck i = unique (codes "x") a.solved o in absurd (cc)

  pub never_not_open : (i : ℕ) → NeverArises c → IsOpen c i → ⊥
  never_not_open i n o = let same : no_answer ≡ stuck i = unique (codes "x") n o in absurd (cc)

  pub one_place_open : (i j : ℕ) → IsOpen c i → IsOpen c j → i ≡ j
  one_place_open i j a b = let same : stuck_at i ≡ stuck_at j = unique (codes "x") a b in cc

  -- where a hint gives one name, it arises as one goal
  pub arises_once : GivesOne IsName → (after others : Cells) (g h : Sequent) → Arises IsName c after g → Arises IsName c others h → (after ≡ others) × (g ≡ h)
  arises_once one after others g h a b =
      let same : unified a.more a.answer ≡ unified b.more b.answer = unique (codes "x") a.solved b.solved in
      let cells_same : a.more ≡ b.more = cc in
      let answers_same : a.answer ≡ b.answer = cc in
      let moved : Named IsName c.goal (length b.more) (made c.before b.more b.answer) a.new =
      subst (λ r. Named IsName c.goal (length b.more) (made c.before b.more r) a.new) answers_same (subst (λ m. Named IsName c.goal (length m) (made c.before m a.answer) a.new) cells_same a.named) in
      let lists : a.new ≡ b.new = named_once IsName one c.goal (length b.more) (made c.before b.more b.answer) a.new b.new moved b.named in (
        a.all ∙ ap (λ m. m ++ map cell_for a.new) cells_same ∙ ap (λ l. b.more ++ map cell_for l) lists ∙ sym b.all,
        a.goal ∙ ap (λ m. under c.before m a.answer a.new c.goal) cells_same ∙ ap (λ r. under c.before b.more r a.new c.goal) answers_same ∙ ap (λ l. under c.before b.more b.answer l c.goal) lists ∙ sym b.goal,
      )

  -- where a hint always gives a name, one of the three always comes
  pub case_answered : ((s : Sequent) (hint : List ℕ) → (name : List ℕ) × IsName s hint name) → ((after : Cells) × (g : Sequent) × Arises IsName c after g) ⊎ (NeverArises c ⊎ ((i : ℕ) × IsOpen c i))
  case_answered total = let a = answered (codes "x") (problem_of c) in go a.0 a.1
    where
      go : (a : Answer (List ℕ)) → Solves (codes "x") (problem_of c) a → ((after : Cells) × (g : Sequent) × Arises IsName c after g) ⊎ (NeverArises c ⊎ ((i : ℕ) × IsOpen c i))
      go (unified more r) p =
          let names = named_always IsName total c.goal (length more) (made c.before more r) in
          inl (more ++ map cell_for names.0, under c.before more r names.0 c.goal, record { more = more; answer = r; new = names.0; solved = p; named = names.1; all = refl; goal = refl })
      go apart p = inr (inl p)
      go (stuck i) p = inr (inr (i, p))

pub arises_more : (IsName IsOther : Naming) → ((s : Sequent) (hint name : List ℕ) → IsName s hint name → IsOther s hint name) → (c : Case) (after : Cells) (g : Sequent) → Arises IsName c after g → Arises IsOther c after g
arises_more IsName IsOther f c after g a = record {
  more = a.more;
  answer = a.answer;
  new = a.new;
  solved = a.solved;
  named = named_more IsName IsOther f c.goal (length a.more) (made c.before a.more a.answer) a.new a.named;
  all = a.all;
  goal = a.goal;
}

-- WHOLE LISTS OF CASES
pub split_more : (IsName IsOther : Naming) → ((s : Sequent) (hint name : List ℕ) → IsName s hint name → IsOther s hint name) → (cells : Cells) (cs : List CaseOver) (gs : List Sequent) → Split IsName cells cs gs → Split IsOther cells cs gs
split_more IsName IsOther f cells [] [] done = done
split_more IsName IsOther f cells [] (g ∷ gs) d = elim d [ ]
split_more IsName IsOther f cells (c ∷ cs) gs (never n rest) = never n (split_more IsName IsOther f cells cs gs rest)
split_more IsName IsOther f cells (c ∷ cs) (g ∷ gs) (arises {after = after} a rest) = arises (arises_more IsName IsOther f (c cells) after g a) (split_more IsName IsOther f after cs gs rest)

module _ (IsName : Naming) (one : GivesOne IsName) where
  pub split_once : (cells : Cells) (cs : List CaseOver) (gs hs : List Sequent) → Split IsName cells cs gs → Split IsName cells cs hs → gs ≡ hs
  split_once cells [] [] [] done done = refl
  split_once cells [] [] (h ∷ hs) d e = elim e [ ]
  split_once cells [] (g ∷ gs) hs d e = elim d [ ]
  split_once cells (c ∷ cs) gs hs (never n rest) (never m others) = split_once cells cs gs hs rest others
  split_once cells (c ∷ cs) gs (h ∷ hs) (never n rest) (arises {after = b} a others) = absurd (arises_not_never IsName (c cells) b h a n)
  split_once cells (c ∷ cs) (g ∷ gs) hs (arises {after = b} a rest) (never n others) = absurd (arises_not_never IsName (c cells) b g a n)
  split_once cells (c ∷ cs) (g ∷ gs) (h ∷ hs) (arises {after = x} a rest) (arises {after = y} b others) =
      let same = arises_once IsName (c cells) one x y g h a b in
      ap (λ k. k ∷ gs) same.1 ∙ ap (λ ks. h ∷ ks) (split_once y cs gs hs (subst (λ z. Split IsName z cs gs) same.0 rest) others)

  pub not_both : (cells : Cells) (cs : List CaseOver) (gs : List Sequent) (i : ℕ) → Split IsName cells cs gs → IsUnsplit IsName cells cs i → ⊥
  not_both cells [] gs i d u = elim u [ ]
  not_both cells (c ∷ cs) gs i (never n rest) (here o) = never_not_open IsName (c cells) i n o
  not_both cells (c ∷ cs) gs i (never n rest) (past_never m u) = not_both cells cs gs i rest u
  not_both cells (c ∷ cs) gs i (never n rest) (past_goal {after = b} {g = g} a u) = arises_not_never IsName (c cells) b g a n
  not_both cells (c ∷ cs) (g ∷ gs) i (arises {after = b} a rest) (here o) = arises_not_open IsName (c cells) b g i a o
  not_both cells (c ∷ cs) (g ∷ gs) i (arises {after = b} a rest) (past_never n u) = arises_not_never IsName (c cells) b g a n
  not_both cells (c ∷ cs) (g ∷ gs) i (arises {after = x} a rest) (past_goal {after = y} {g = h} b u) =
      let same = arises_once IsName (c cells) one x y g h a b in
      not_both y cs gs i (subst (λ z. Split IsName z cs gs) same.0 rest) u

  pub one_place_unsplit : (cells : Cells) (cs : List CaseOver) (i j : ℕ) → IsUnsplit IsName cells cs i → IsUnsplit IsName cells cs j → i ≡ j
  one_place_unsplit cells [] i j u v = elim u [ ]
  one_place_unsplit cells (c ∷ cs) i j (here o) (here p) = one_place_open IsName (c cells) i j o p
  one_place_unsplit cells (c ∷ cs) i j (here o) (past_never n u) = absurd (never_not_open IsName (c cells) i n o)
  one_place_unsplit cells (c ∷ cs) i j (here o) (past_goal {after = b} {g = g} a u) = absurd (arises_not_open IsName (c cells) b g i a o)
  one_place_unsplit cells (c ∷ cs) i j (past_never n u) (here o) = absurd (never_not_open IsName (c cells) j n o)
  one_place_unsplit cells (c ∷ cs) i j (past_never n u) (past_never m v) = one_place_unsplit cells cs i j u v
  one_place_unsplit cells (c ∷ cs) i j (past_never n u) (past_goal {after = b} {g = g} a v) = absurd (arises_not_never IsName (c cells) b g a n)
  one_place_unsplit cells (c ∷ cs) i j (past_goal {after = b} {g = g} a u) (here o) = absurd (arises_not_open IsName (c cells) b g j a o)
  one_place_unsplit cells (c ∷ cs) i j (past_goal {after = b} {g = g} a u) (past_never n v) = absurd (arises_not_never IsName (c cells) b g a n)
  one_place_unsplit cells (c ∷ cs) i j (past_goal {after = x} {g = g} a u) (past_goal {after = y} {g = h} b v) =
      let same = arises_once IsName (c cells) one x y g h a b in
      one_place_unsplit y cs i j (subst (λ z. IsUnsplit IsName z cs i) same.0 u) v

-- one of both always comes
pub split_answered : (IsName : Naming) → ((s : Sequent) (hint : List ℕ) → (name : List ℕ) × IsName s hint name) → (cells : Cells) (cs : List CaseOver) → ((gs : List Sequent) × Split IsName cells cs gs) ⊎ ((i : ℕ) × IsUnsplit IsName cells cs i)
split_answered IsName total cells [] = inl ([], done)
split_answered IsName total cells (c ∷ cs) = elim (case_answered IsName (c cells) total) [
  | inl a ↦ elim (split_answered IsName total a.0 cs) [ inl rest ↦ inl (a.1 ∷ rest.0, arises a.2 rest.1) | inr u ↦ inr (u.0, past_goal a.2 u.1) ]
  | inr a ↦ elim a [
    | inl n ↦ elim (split_answered IsName total cells cs) [ inl rest ↦ inl (rest.0, never n rest.1) | inr u ↦ inr (u.0, past_never n u.1) ]
    | inr o ↦ inr (o.0, here o.1)
  ]
]

-- a case that is well made over these variables is so over more
more_cases : (D : Declarations) (cells more : Cells) (cs : List CaseOver) → All (IsCaseOver D cells) cs → All (IsCaseOver D (cells ++ more)) cs
more_cases D cells more cs all =
    All-weaker (IsCaseOver D cells) (IsCaseOver D (cells ++ more))
    (λ c well rest. subst (λ (all : Cells). ((c all).before ≡ all) × IsCase D (c all)) (sym (append_assoc cells more rest)) (well (more ++ rest))) cs all

-- THE GOALS ARE SEQUENTS
pub split_sequents : (D : Declarations) (IsName : Naming) → ((s : Sequent) (hint name : List ℕ) → IsName s hint name → IsNoVariable s name) → (cells : Cells) (cs : List CaseOver) (gs : List Sequent)
    → All (IsCaseOver D cells) cs → Split IsName cells cs gs → All (IsSequent D) gs
split_sequents D IsName new cells [] [] all done = All-nil (IsSequent D)
split_sequents D IsName new cells [] (g ∷ gs) all d = elim d [ ]
split_sequents D IsName new cells (c ∷ cs) gs all (never n rest) = split_sequents D IsName new cells cs gs (All-tail (IsCaseOver D cells) c cs all) rest
split_sequents D IsName new cells (c ∷ cs) (g ∷ gs) all (arises {after = after} a rest) =
    let well : ((c cells).before ≡ cells) × IsCase D (c cells) = subst (λ (all : Cells). ((c all).before ≡ all) × IsCase D (c all)) (append-nil cells) (All-head (IsCaseOver D cells) c cs all []) in
    let r = arising_is_sequent D IsName new (c cells) well.1 after g a in
    let grown : after ≡ cells ++ ((c cells).own ++ r.2.0) = r.2.1 ∙ append_assoc (c cells).before (c cells).own r.2.0 ∙ ap (λ (l : Cells). l ++ ((c cells).own ++ r.2.0)) well.0 in
    All-cons (IsSequent D) g gs r.0
    (split_sequents D IsName new after cs gs (subst (λ (l : Cells). All (IsCaseOver D l) cs) (sym grown) (more_cases D cells ((c cells).own ++ r.2.0) cs (All-tail (IsCaseOver D cells) c cs all))) rest)

-- SO FAR: these goals came of these cases, and over these variables go on all that are still to come
pub record Passes (IsName : Naming) (cells : Cells) (cs : List CaseOver) (gs : List Sequent) (after : Cells) : Type 0 where
  pub splits : (ds : List CaseOver) (hs : List Sequent) → Split IsName after ds hs → Split IsName cells (cs ++ ds) (gs ++ hs)
  pub stops : (ds : List CaseOver) (i : ℕ) → IsUnsplit IsName after ds i → IsUnsplit IsName cells (cs ++ ds) i

pub passes_none : (IsName : Naming) (cells : Cells) → Passes IsName cells [] [] cells
passes_none IsName cells = record { splits = λ ds hs d. d; stops = λ ds i u. u }

module _ (IsName : Naming) (cells : Cells) (cs : List CaseOver) (gs : List Sequent) (after : Cells) (so_far : Passes IsName cells cs gs after) where
  pub passes_never : (c : CaseOver) → NeverArises (c after) → Passes IsName cells (cs ++ c ∷ []) gs after
  passes_never c n = record {
    splits = λ ds hs d. subst (λ l. Split IsName cells l (gs ++ hs)) (sym (append_assoc cs (c ∷ []) ds)) (so_far.splits (c ∷ ds) hs (never n d));
    stops = λ ds i u. subst (λ l. IsUnsplit IsName cells l i) (sym (append_assoc cs (c ∷ []) ds)) (so_far.stops (c ∷ ds) i (past_never n u));
  }

  pub passes_goal : (c : CaseOver) (more : Cells) (g : Sequent) → Arises IsName (c after) more g → Passes IsName cells (cs ++ c ∷ []) (gs ++ g ∷ []) more
  passes_goal c more g a = record {
    splits = λ ds hs d.
        subst (λ l. Split IsName cells l ((gs ++ g ∷ []) ++ hs)) (sym (append_assoc cs (c ∷ []) ds))
        (subst (Split IsName cells (cs ++ c ∷ ds)) (sym (append_assoc gs (g ∷ []) hs)) (so_far.splits (c ∷ ds) (g ∷ hs) (arises a d)));
    stops = λ ds i u. subst (λ l. IsUnsplit IsName cells l i) (sym (append_assoc cs (c ∷ []) ds)) (so_far.stops (c ∷ ds) i (past_goal a u));
  }

  -- all cases, or one that is open
  pub passed_all : Split IsName cells cs gs
  passed_all = subst (λ l. Split IsName cells l gs) (append-nil cs) (subst (Split IsName cells (cs ++ [])) (append-nil gs) (so_far.splits [] [] done))

  pub passed_open : (c : CaseOver) (ds : List CaseOver) (i : ℕ) → IsOpen (c after) i → IsUnsplit IsName cells (cs ++ c ∷ ds) i
  passed_open c ds i o = so_far.stops (c ∷ ds) i (here o)
