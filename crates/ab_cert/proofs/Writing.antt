-- Lines that begin by a line feed, and the stack of what is still to be written of one.
use Rattle.std.proofs.Common.{◌≡◌, ◌<◌, ◌≤◌, ◌+◌, ◌*◌, ℕ, List, [], ◌∷◌, ◌++◌, length, map, drop, codes, decimal, Result, Ok, Err, is_ok, if◌then◌else◌, OnOk, refl, sym, ap, ◌∙◌, append_assoc, arith}
use Rattle.std.specs.List.{flat_map}
use Rattle.std.proofs.lemmas.List.{append-nil, at_drop_all}
use Rattle.std.proofs.Math.ListN.{length-append}
use Rattle.ab_cert.specs.Appending.{Extends}
use Rattle.ab_cert.specs.declared.row.Stretch.{Stretch}
use Rattle.ab_cert.specs.declared.row.Row.{Row}
use Rattle.ab_cert.specs.declared.cert.CertItem.{CertItem}
use Rattle.ab_cert.specs.Values.{item_of}
use Rattle.ab_cert.specs.Plain.{Item}
use Rattle.ab_cert.specs.Pieces.{Pieces, item_lines, last_line}
use Rattle.ab_cert.specs.Texts.{space, line_feed, line_text, text_of}
use Rattle.ab_cert.specs.Writing.{led, line_behind, piece_of, stretch_pieces, row_pieces, stack_pieces, items_text}

-- what was there still stands in front

pub extends_more : (old new more : List ℕ) → Extends old new → Extends old (new ++ more)
extends_more old new more e = (e.0 ++ more, ap (λ q. q ++ more) e.1 ∙ append_assoc old e.0 more)

pub extends_on : (old mid new : List ℕ) → Extends old mid → Extends mid new → Extends old new
extends_on old mid new e f = (e.0 ++ f.0, f.1 ∙ (ap (λ q. q ++ f.0) e.1 ∙ append_assoc old e.0 f.0))

-- the stack

pub stack_top : (ss : List Stretch) (s : Stretch) (below : Pieces) → stack_pieces (ss ++ s ∷ []) below ≡ stretch_pieces s ++ stack_pieces ss below
stack_top [] s below = refl
stack_top (x ∷ ss) s below = stack_top ss s (stretch_pieces x ++ below)

abbrev pub behind : Row → Pieces → Pieces
behind r below = stretch_pieces r.first ++ (stretch_pieces r.second ++ (stretch_pieces r.third ++ (stretch_pieces r.fourth ++ below)))

abbrev pub stacked : Row → List Stretch
stacked r = r.fourth ∷ (r.third ∷ (r.second ∷ (r.first ∷ [])))

pub stack_row : (ss : List Stretch) (r : Row) (below : Pieces) → stack_pieces (ss ++ stacked r) below ≡ behind r (stack_pieces ss below)
stack_row [] r below = refl
stack_row (x ∷ ss) r below = stack_row ss r (stretch_pieces x ++ below)

four : (a b c d e : Pieces) → (a ++ (b ++ (c ++ d))) ++ e ≡ a ++ (b ++ (c ++ (d ++ e)))
four a b c d e =
    append_assoc a (b ++ (c ++ d)) e
    ∙ ap (λ q. a ++ q) (append_assoc b (c ++ d) e ∙ ap (λ q. b ++ q) (append_assoc c d e))

pub row_behind : (r : Row) (below : Pieces) → row_pieces r ++ below ≡ piece_of r.head ∷ behind r below
row_behind r below = ap (λ q. piece_of r.head ∷ q) (four (stretch_pieces r.first) (stretch_pieces r.second) (stretch_pieces r.third) (stretch_pieces r.fourth) below)

-- a line is begun
pub line_begun : (out : List ℕ) (r : Row) → (out ++ line_feed ∷ piece_of r.head) ++ led (stack_pieces (stacked r) []) ≡ out ++ line_behind (row_pieces r)
line_begun out r =
    append_assoc out (line_feed ∷ piece_of r.head) (led (behind r []))
    ∙ ap (λ q. out ++ line_feed ∷ (piece_of r.head ++ led (stretch_pieces r.first ++ (stretch_pieces r.second ++ (stretch_pieces r.third ++ q))))) (append-nil (stretch_pieces r.fourth))

-- a stretch is taken from the stack: its row is written and put on it

pub stretch_taken : (out whole : List ℕ) (old ss new : List Stretch) (s : Stretch) (r : Row) → old ≡ ss ++ s ∷ [] → new ≡ ss ++ stacked r → row_pieces r ≡ stretch_pieces s
    → out ++ led (stack_pieces old []) ≡ whole → (out ++ space ∷ piece_of r.head) ++ led (stack_pieces new []) ≡ whole
stretch_taken out whole old ss new s r f g e w =
    let S = stack_pieces ss [] in
    ap (λ q. (out ++ space ∷ piece_of r.head) ++ led (stack_pieces q [])) g
    ∙ (append_assoc out (space ∷ piece_of r.head) (led (stack_pieces (ss ++ stacked r) []))
    ∙ (ap (λ q. out ++ space ∷ (piece_of r.head ++ led q)) (stack_row ss r [])
    ∙ (ap (λ q. out ++ led q) (sym (row_behind r S) ∙ (ap (λ q. q ++ S) e ∙ sym (stack_top ss s [])))
    ∙ (ap (λ q. out ++ led (stack_pieces q [])) (sym f) ∙ w))))

-- or left out, where it stands for nothing

pub stretch_left : (out whole : List ℕ) (old ss : List Stretch) (s : Stretch) → old ≡ ss ++ s ∷ [] → stretch_pieces s ≡ []
    → out ++ led (stack_pieces old []) ≡ whole → out ++ led (stack_pieces ss []) ≡ whole
stretch_left out whole old ss s f e w =
    ap (λ q. out ++ led q) (ap (λ q. q ++ stack_pieces ss []) (sym e) ∙ sym (stack_top ss s []))
    ∙ (ap (λ q. out ++ led (stack_pieces q [])) (sym f) ∙ w)

-- what is left falls: a row writes a piece and puts three more stretches on the stack at most

abbrev pub weight : List Stretch → ℕ
weight ss = 5 * length (stack_pieces ss []) + length ss

pub taken_falls : (old ss new : List Stretch) (s : Stretch) (r : Row) → old ≡ ss ++ s ∷ [] → new ≡ ss ++ stacked r → row_pieces r ≡ stretch_pieces s → weight new < weight old
taken_falls old ss new s r f g e =
    let S = stack_pieces ss [] in
    let a : length (stack_pieces new []) ≡ length (behind r S) = ap length (ap (λ q. stack_pieces q []) g ∙ stack_row ss r []) in
    let b : length (stack_pieces old []) ≡ length (piece_of r.head ∷ behind r S) = ap length (ap (λ q. stack_pieces q []) f ∙ (stack_top ss s [] ∙ (ap (λ q. q ++ S) (sym e) ∙ row_behind r S))) in
    omega (arith, a, b, ap length f, ap length g, length-append ss (stacked r), length-append ss (s ∷ []))

pub left_falls : (old ss : List Stretch) (s : Stretch) → old ≡ ss ++ s ∷ [] → stretch_pieces s ≡ [] → weight ss < weight old
left_falls old ss s f e =
    let S = stack_pieces ss [] in
    let b : length (stack_pieces old []) ≡ length S = ap length (ap (λ q. stack_pieces q []) f ∙ (stack_top ss s [] ∙ ap (λ q. q ++ S) e)) in
    omega (arith, b, ap length f, length-append ss (s ∷ []))

-- lists of lines

pub flat_next : {A : Type 0} (f : A → List ℕ) (xs : List A) (ys : List A) → flat_map f (xs ++ ys) ≡ flat_map f xs ++ flat_map f ys
flat_next f [] ys = refl
flat_next f (x ∷ xs) ys = ap (λ q. f x ++ q) (flat_next f xs ys) ∙ sym (append_assoc (f x) (flat_map f xs) (flat_map f ys))

line_led : (p : List ℕ) (ps : Pieces) → line_text (p ∷ ps) ≡ p ++ (led ps ++ line_feed ∷ [])
line_led p [] = refl
line_led p (q ∷ ps) = ap (λ t. p ++ space ∷ t) (line_led q ps ∙ sym (append_assoc q (led ps) (line_feed ∷ [])))

line_moved : (l : Pieces) → line_feed ∷ line_text l ≡ line_behind l ++ line_feed ∷ []
line_moved [] = refl
line_moved (p ∷ ps) = ap (λ q. line_feed ∷ q) (line_led p ps ∙ sym (append_assoc p (led ps) (line_feed ∷ [])))

pub lines_moved : (ls : List Pieces) → line_feed ∷ flat_map line_text ls ≡ flat_map line_behind ls ++ line_feed ∷ []
lines_moved [] = refl
lines_moved (l ∷ ls) =
    ap (λ q. q ++ flat_map line_text ls) (line_moved l)
    ∙ (append_assoc (line_behind l) (line_feed ∷ []) (flat_map line_text ls)
    ∙ (ap (λ q. line_behind l ++ q) (lines_moved ls) ∙ sym (append_assoc (line_behind l) (flat_map line_behind ls) (line_feed ∷ []))))

-- the text is the first line, the lines of the items each behind a line feed, and the last line
pub text_behind : (items : List Item) → text_of items ≡ codes "abella-cert 1" ++ (flat_map line_behind (flat_map item_lines items) ++ codes "\nend\n")
text_behind items =
    let ls = flat_map item_lines items in
    ap (λ q. codes "abella-cert 1" ++ q)
    (lines_moved (ls ++ last_line ∷ [])
    ∙ (ap (λ q. q ++ line_feed ∷ []) (flat_next line_behind ls (last_line ∷ []))
    ∙ append_assoc (flat_map line_behind ls) (flat_map line_behind (last_line ∷ [])) (line_feed ∷ [])))

-- the items are written, and the last line behind them
pub text_ended : (old out : List ℕ) (left items : List CertItem) (i : ℕ) → length left ≤ i
    → out ++ items_text (drop i left) ≡ old ++ (codes "abella-cert 1" ++ items_text items) → out ++ codes "\nend\n" ≡ old ++ text_of (map item_of items)
text_ended old out left items i l w =
    let begun = codes "abella-cert 1" ++ items_text items in
    let all : out ≡ old ++ begun = sym (append-nil out) ∙ (ap (λ q. out ++ q) (sym (at_drop_all items_text left i l)) ∙ w) in
    ap (λ q. q ++ codes "\nend\n") all
    ∙ (append_assoc old begun (codes "\nend\n") ∙ ap (λ q. old ++ q) (sym (text_behind (map item_of items))))

-- what a call leaves that may fail

pub on_ok : {T E : Type 0} (r : Result T E) (new a b whole : List ℕ) → new ≡ (if is_ok r then a else b) → a ≡ whole → OnOk r (new ≡ whole)
on_ok (Ok x) new a b whole e f = e ∙ f
on_ok (Err x) new a b whole e f = tt

pub extends_either : {T E : Type 0} (r : Result T E) (old new a b : List ℕ) → new ≡ (if is_ok r then a else b) → Extends old a → Extends old b → Extends old new
extends_either (Ok x) old new a b e f g = (f.0, e ∙ f.1)
extends_either (Err x) old new a b e f g = (g.0, e ∙ g.1)
