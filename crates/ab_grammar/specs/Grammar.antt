-- The grammar of expressions and types: which lists of tokens are texts, and of which tree.
-- It is stated by the levels of the forms, loosest first, and by how each sign groups:
--   1  ->  right      4  =   not at all     7  ::  right
--   2  \/  left       5  =>  right          8  application, and pi before an abstraction
--   3  /\  left       6  &   left           9  names, true, false, parentheses, judgements
-- A quantifier and an abstraction stand at level 9 too, as last operand or last argument only, and reach as far as they can.
use Rattle.std.specs.Prelude.{ℕ, suc, List, [], ◌∷◌, ◌++◌, Option, Some, None}
use Rattle.ab_grammar.specs.declared.Infix.{Infix}
use Rattle.ab_grammar.specs.declared.Infix.TheVariants.{Arrow, Or, And, Equal, Imply, With, Cons}
use Rattle.ab_grammar.specs.declared.Quant.{Quant}
use Rattle.ab_grammar.specs.Token.{Token, word, truth, quantifier, pi_word, sign, left_paren, right_paren, left_brace, right_brace, left_bracket, right_bracket, turnstile, backslash, comma, colon}
use Rattle.ab_grammar.specs.Tree.{Ty, base, arrow, Binder, Tree, name, abs, bind, applied, joined, judgement, pi_of}

pub data Group : Type 0 where
  to_left : Group
  to_right : Group
  not_at_all : Group

abbrev pub level : Infix → ℕ
level Arrow = 1
level Or = 2
level And = 3
level Equal = 4
level Imply = 5
level With = 6
level Cons = 7

abbrev pub group_of : Infix → Group
group_of Arrow = to_right
group_of Or = to_left
group_of And = to_left
group_of Equal = not_at_all
group_of Imply = to_right
group_of With = to_left
group_of Cons = to_right

-- the level of the left and of the right operand of a sign: its own on the side to which it groups, else the next
abbrev pub left_in : Group → ℕ → ℕ
left_in to_left l = l
left_in to_right l = suc l
left_in not_at_all l = suc l

abbrev pub right_in : Group → ℕ → ℕ
right_in to_left l = suc l
right_in to_right l = l
right_in not_at_all l = suc l

abbrev pub left : Infix → ℕ
left o = left_in (group_of o) (level o)

abbrev pub right : Infix → ℕ
right o = right_in (group_of o) (level o)

-- types: 0 with an arrow, which groups to the right, 1 without
pub data ReadsType : ℕ → List Token → Ty → Type 0 where
  named_type : (x : List ℕ) (p : ℕ) → ReadsType 1 (word x p ∷ []) (base x p)
  grouped_type : {ts : List Token} {A : Ty} → ReadsType 0 ts A → ReadsType 1 (left_paren ∷ ts ++ right_paren ∷ []) A
  arrow_type : {ts us : List Token} {A B : Ty} → ReadsType 1 ts A → ReadsType 0 us B → ReadsType 0 (ts ++ sign Arrow ∷ us) (arrow A B)
  looser_type : {ts : List Token} {A : Ty} → ReadsType 1 ts A → ReadsType 0 ts A

abbrev pub TypeText : List Token → Ty → Type 0
TypeText = ReadsType 0

abbrev pub plain : List ℕ → ℕ → Binder
plain x p = record { name = x; type_of = None; place = p }

abbrev pub typed : List ℕ → ℕ → Ty → Binder
typed x p A = record { name = x; type_of = Some A; place = p }

pub data ReadsBinder : List Token → Binder → Type 0 where
  plain_binder : (x : List ℕ) (p : ℕ) → ReadsBinder (word x p ∷ []) (plain x p)
  typed_binder : {ts : List Token} {A : Ty} → (x : List ℕ) (p : ℕ) → TypeText ts A → ReadsBinder (left_paren ∷ word x p ∷ colon ∷ ts ++ right_paren ∷ []) (typed x p A)

-- any number of binders
pub data ReadsBinders : List Token → List Binder → Type 0 where
  no_binders : ReadsBinders [] []
  more_binders : {ts us : List Token} {b : Binder} {bs : List Binder} → ReadsBinder ts b → ReadsBinders us bs → ReadsBinders (ts ++ us) (b ∷ bs)

-- whether a text ends by itself, or with a quantifier or an abstraction, behind which only a bracket can close
pub data Ends : Type 0 where
  closed : Ends
  free : Ends

mutual
  -- expressions of a level
  pub data Reads : ℕ → Ends → List Token → Tree → Type 0 where
    looser : {l : ℕ} {e : Ends} {ts : List Token} {t : Tree} → Reads (suc l) e ts t → Reads l e ts t
    infixed : {e : Ends} {ts us : List Token} {t u : Tree} → (o : Infix) → Reads (left o) closed ts t → Reads (right o) e us u → Reads (level o) e (ts ++ sign o ∷ us) (joined o t u)
    application : {e : Ends} {ts us : List Token} {f : Tree} {vs : List Tree} → Reads 9 closed ts f → Args e us vs → Reads 8 e (ts ++ us) (applied f vs)
    pi_applied : {e : Ends} {ts : List Token} {t : Tree} → (p : ℕ) → Abs e ts t → Reads 8 e (pi_word p ∷ ts) (pi_of p t)
    named : (x : List ℕ) (p : ℕ) → Reads 9 closed (word x p ∷ []) (name x p)
    true_or_false : (x : List ℕ) (p : ℕ) → Reads 9 closed (truth x p ∷ []) (name x p)
    grouped : {e : Ends} {ts : List Token} {t : Tree} → Reads 1 e ts t → Reads 9 closed (left_paren ∷ ts ++ right_paren ∷ []) t
    abstracted : {e : Ends} {ts : List Token} {t : Tree} → (x : List ℕ) (p : ℕ) → Reads 1 e ts t → Reads 9 free (word x p ∷ backslash ∷ ts) (abs x t p)
    quantified : {e : Ends} {ts us : List Token} {t : Tree} {b : Binder} {bs : List Binder} → (q : Quant) (p : ℕ) → ReadsBinders ts (b ∷ bs) → Reads 1 e us t → Reads 9 free (quantifier q p ∷ ts ++ comma ∷ us) (bind q (b ∷ bs) t p)
    judged : {e : Ends} {ts : List Token} {g : Tree} → (p : ℕ) → Reads 1 e ts g → Reads 9 closed (left_brace p ∷ ts ++ right_brace ∷ []) (judgement [] None g p)
    judged_from : {e : Ends} {ts us : List Token} {cs : List Tree} {f : Option Tree} {g : Tree} → (p : ℕ) → Front ts cs f → Reads 1 e us g → Reads 9 closed (left_brace p ∷ ts ++ turnstile ∷ us ++ right_brace ∷ []) (judgement cs f g p)

  -- one argument or more
  pub data Args : Ends → List Token → List Tree → Type 0 where
    last_arg : {e : Ends} {ts : List Token} {t : Tree} → Reads 9 e ts t → Args e ts (t ∷ [])
    more_args : {e : Ends} {ts us : List Token} {t : Tree} {vs : List Tree} → Reads 9 closed ts t → Args e us vs → Args e (ts ++ us) (t ∷ vs)

  -- what pi takes: an abstraction, in any number of parentheses
  pub data Abs : Ends → List Token → Tree → Type 0 where
    bare_abs : {e : Ends} {ts : List Token} {t : Tree} → (x : List ℕ) (p : ℕ) → Reads 1 e ts t → Abs free (word x p ∷ backslash ∷ ts) (abs x t p)
    grouped_abs : {e : Ends} {ts : List Token} {t : Tree} → Abs e ts t → Abs closed (left_paren ∷ ts ++ right_paren ∷ []) t

  -- what stands in a judgement before its turnstile: c, .., c or [F] or c, .., c, [F]
  pub data Front : List Token → List Tree → Option Tree → Type 0 where
    listed : {e : Ends} {ts us : List Token} {c : Tree} {cs : List Tree} → Items ts cs → Reads 1 e us c → Front (ts ++ us) (cs ++ c ∷ []) None
    with_focus : {e : Ends} {ts us : List Token} {f : Tree} {cs : List Tree} → Items ts cs → Reads 1 e us f → Front (ts ++ left_bracket ∷ us ++ right_bracket ∷ []) cs (Some f)

  -- items, each with its comma
  pub data Items : List Token → List Tree → Type 0 where
    no_items : Items [] []
    more_items : {e : Ends} {ts us : List Token} {c : Tree} {cs : List Tree} → Items ts cs → Reads 1 e us c → Items (ts ++ us ++ comma ∷ []) (cs ++ c ∷ [])

abbrev pub Text : List Token → Tree → Type 0
Text ts t = (e : Ends) × Reads 1 e ts t
