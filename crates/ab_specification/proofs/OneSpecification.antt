-- Items declare one list, or one of them is refused for one cause, and never both; and how this goes on from item to item.
use Rattle.std.proofs.Common.{◌≡◌, List, [], ◌∷◌, ◌++◌, refl, sym, ◌∙◌, ap, subst, append_assoc, append-nil}
use Rattle.ab_formulas.specs.Declarations.{Declarations}
use Rattle.ab_declare.specs.declared.refusal.Refusal.{Refusal}
use Rattle.ab_specification.specs.FileDeclarations.{PlacedItem, in_file, AllDeclare, no_item, one_more, FirstDeclines, this, later}
use Rattle.ab_specification.proofs.OneItem.{item_or_not, one_declaring, one_refusing}

-- ONE ANSWER

pub all_or_first : (D : Declarations) (is : List PlacedItem) (more : Declarations) (r : Refusal) → AllDeclare D is more → FirstDeclines D is r → ⊥
all_or_first D (i ∷ is) ms r (one_more {more = more} a rest) (this {r = q} b) = item_or_not D i.clauses_before i.item more q a b
all_or_first D (i ∷ is) ms r (one_more {more = more} {rest = others} a rest) (later {more = m} b first) =
    all_or_first (D ++ more) is others r rest (subst (λ z. FirstDeclines (D ++ z) is r) (one_declaring D i.clauses_before i.item m more b a) first)
all_or_first D [] ms r a f = elim f [ ]

pub one_list : (D : Declarations) (is : List PlacedItem) (more others : Declarations) → AllDeclare D is more → AllDeclare D is others → more ≡ others
one_list D [] more others no_item no_item = refl
one_list D (i ∷ is) ms ns (one_more {more = m} {rest = q} a rest) (one_more {more = n} {rest = s} b behind) =
    let same = one_declaring D i.clauses_before i.item n m b a in
    let one = one_list (D ++ m) is q s rest (subst (λ z. AllDeclare (D ++ z) is s) same behind) in
    ap (λ z. m ++ z) one ∙ ap (λ z. z ++ s) (sym same)

pub one_first : (D : Declarations) (is : List PlacedItem) (r q : Refusal) → FirstDeclines D is r → FirstDeclines D is q → r ≡ q
one_first D (i ∷ is) r q (this {r = s} a) (this {r = t} b) = ap (in_file i.file) (one_refusing D i.clauses_before i.item s t a b)
one_first D (i ∷ is) r q (this {r = s} a) (later {more = m} b rest) = absurd (item_or_not D i.clauses_before i.item m s b a)
one_first D (i ∷ is) r q (later {more = m} a rest) (this {r = t} b) = absurd (item_or_not D i.clauses_before i.item m t a b)
one_first D (i ∷ is) r q (later {more = m} a rest) (later {more = n} b behind) =
    one_first (D ++ m) is r q rest (subst (λ z. FirstDeclines (D ++ z) is q) (one_declaring D i.clauses_before i.item n m b a) behind)
one_first D [] r q f g = elim f [ ]

-- FROM ITEM TO ITEM

pub declare_on : (D : Declarations) (is js : List PlacedItem) (more rest : Declarations) → AllDeclare D is more → AllDeclare (D ++ more) js rest → AllDeclare D (is ++ js) (more ++ rest)
declare_on D [] js more rest no_item b = subst (λ E. AllDeclare E js rest) (append-nil D) b
declare_on D (i ∷ is) js ms rest (one_more {more = m} {rest = q} a front) b =
    subst (AllDeclare D (i ∷ (is ++ js))) (sym (append_assoc m q rest))
    (one_more a (declare_on (D ++ m) is js q rest front (subst (λ E. AllDeclare E js rest) (sym (append_assoc D m q)) b)))

pub decline_on : (D : Declarations) (is js : List PlacedItem) (more : Declarations) (r : Refusal) → AllDeclare D is more → FirstDeclines (D ++ more) js r → FirstDeclines D (is ++ js) r
decline_on D [] js more r no_item b = subst (λ E. FirstDeclines E js r) (append-nil D) b
decline_on D (i ∷ is) js ms r (one_more {more = m} {rest = q} a front) b = later a (decline_on (D ++ m) is js q r front (subst (λ E. FirstDeclines E js r) (sym (append_assoc D m q)) b))

pub decline_before : (D : Declarations) (is js : List PlacedItem) (r : Refusal) → FirstDeclines D is r → FirstDeclines D (is ++ js) r
decline_before D (i ∷ is) js r (this a) = this a
decline_before D (i ∷ is) js r (later {more = m} a rest) = later a (decline_before (D ++ m) is js r rest)
decline_before D [] js r f = elim f [ ]
