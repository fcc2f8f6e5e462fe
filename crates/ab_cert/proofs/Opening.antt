-- The texts of what is still to be read begin by a piece of the first part, and go on by the texts of what follows it.
use Rattle.std.proofs.Common.{◌≡◌, ◌<◌, ◌^◌, ℕ, zero, suc, Bool, true, List, [], ◌∷◌, ◌++◌, length, map, codes, decimal, refl, sym, ap, ◌∙◌, subst, append_assoc}
use Rattle.std.specs.List.{flat_map}
use Rattle.std.proofs.lemmas.List.{append-nil}
use Rattle.std.proofs.lemmas.Grind.{flat_map-append}
use Rattle.ab_cert.specs.declared.part.Part.{Part}
use Rattle.ab_cert.specs.Plain.{Term, Step, Clause, Item, kind, const, block, program, theorem}
use Rattle.ab_cert.specs.Tables.{IsCount, Each, IsItem}
use Rattle.ab_cert.specs.Pieces.{Pieces, type_pieces, term_pieces, list_pieces, step_pieces, variable_pieces, clause_pieces, block_piece, item_lines}
use Rattle.ab_cert.specs.Texts.{space, line_feed, line_text}
use Rattle.ab_cert.specs.Reading.{text_with_end}
use Rattle.ab_cert.specs.Grammar.{copies, item_rows, whole_rows, version_rows, clause_parts, lead_of, IsLead, starts_line, end_of, Val, IsVal, pieces_of, items_text, part_text, Words}
use Rattle.ab_cert.proofs.Phrases.{text_cons, text_more}
use Rattle.ab_cert.proofs.Parts.{Vals, AreVals, all_pieces, are_inside, is_plain_part, some_pieces, plain_text, gather, spread}
use Rattle.ab_cert.proofs.Rows.{EachRow, row_of}
use Rattle.ab_cert.proofs.Leads.{begin, make}

pub record Opening (s : Part) (pending : List Part) (w : List ℕ) : Type 0 where
  pub piece : List ℕ
  pub kids : List Part
  pub lead : IsLead (lead_of s) piece kids
  pub rest : List ℕ
  pub more : Words (kids ++ pending) rest
  pub spelled : w ≡ piece ++ end_of (kids ++ pending) ∷ rest

-- what is read behind a piece
abbrev pub Closes : Part → List Part → List ℕ → List Part → Type 0
Closes s pending p kids = (w : List ℕ) → Words (kids ++ pending) w → Words (s ∷ pending) (p ++ end_of (kids ++ pending) ∷ w)

-- a piece with the byte behind it, and what follows
behind : (p : List ℕ) (b : ℕ) (w : List ℕ) → p ++ b ∷ w ≡ text_with_end b (p ∷ []) ++ w
behind p b w = sym (append_assoc p (b ∷ []) w)

-- parts that are lines, or stand inside one

open_plain : (s : Part) (pending : List Part) (w : List ℕ) → is_plain_part s ≡ true → Words (s ∷ pending) w → Opening s pending w
open_plain s pending w i m =
    let b = begin s i m.value m.meets in
    let g = spread b.kids pending b.values m.rest b.inside b.meet m.more in
    record {
      piece = b.piece;
      kids = b.kids;
      lead = b.lead;
      rest = g.word;
      more = g.more;
      spelled = m.spelled ∙ (ap (λ q. q ++ m.rest) (plain_text s i (end_of pending) m.value ∙ ap (text_with_end (end_of pending)) b.spelled)
          ∙ (sym (g.along (b.piece ∷ []) tt) ∙ sym (behind b.piece (end_of (b.kids ++ pending)) g.word)));
    }

close_plain : (s : Part) (pending : List Part) → is_plain_part s ≡ true → (p : List ℕ) (kids : List Part) → IsLead (lead_of s) p kids → Closes s pending p kids
close_plain s pending i p kids h = λ w m.
    let mk = make s i p kids h in
    let g = gather kids pending w mk.0 m in
    let v = mk.1 g.values g.meet in
    record {
      value = v.value;
      meets = v.meets;
      rest = g.rest;
      more = g.more;
      spelled = behind p (end_of (kids ++ pending)) w ∙ (g.along (p ∷ []) tt ∙ ap (λ q. q ++ g.rest) (ap (text_with_end (end_of pending)) (sym v.spelled) ∙ sym (plain_text s i (end_of pending) v.value)));
    }

-- lines

pub line_with_end : (ps : Pieces) → line_text ps ≡ text_with_end line_feed ps
line_with_end [] = refl
line_with_end (p ∷ []) = refl
line_with_end (p ∷ (q ∷ ps)) = ap (λ x. p ++ space ∷ x) (line_with_end (q ∷ ps))

-- the text of a list of items behind one
lines_text : (end : ℕ) (x : Item) (items : List Item) → items_text end (x ∷ items) ≡ flat_map line_text (item_lines x) ++ items_text end items
lines_text end x items =
    ap (λ q. q ++ text_with_end end (codes "end" ∷ [])) (flat_map-append line_text (item_lines x) (flat_map item_lines items))
    ∙ append_assoc (flat_map line_text (item_lines x)) (flat_map line_text (flat_map item_lines items)) (text_with_end end (codes "end" ∷ []))

-- an item of one line

module _ (pending cs : List Part) (i : are_inside cs ≡ true) (k : List ℕ) where
  abbrev Behind : List Part
  Behind = Part.Items ∷ pending

  one_line_text : (x : Item) (items : List Item) (vs : Vals cs) (rest : List ℕ) → item_lines x ≡ (k ∷ all_pieces cs vs) ∷ [] → items_text (end_of pending) (x ∷ items) ++ rest ≡ text_with_end line_feed (k ∷ all_pieces cs vs) ++ (items_text (end_of pending) items ++ rest)
  one_line_text x items vs rest e =
      ap (λ q. q ++ rest) (lines_text (end_of pending) x items ∙ ap (λ q. flat_map line_text q ++ items_text (end_of pending) items) e
      ∙ ap (λ q. q ++ items_text (end_of pending) items) (append-nil (line_text (k ∷ all_pieces cs vs)) ∙ line_with_end (k ∷ all_pieces cs vs)))
      ∙ append_assoc (text_with_end line_feed (k ∷ all_pieces cs vs)) (items_text (end_of pending) items) rest

  pub open_item : (kids : List Part) → kids ++ pending ≡ cs ++ Behind → IsLead (lead_of Part.Items) k kids → (x : Item) (items : List Item) → Each IsItem items → (vs : Vals cs) → AreVals cs vs → item_lines x ≡ (k ∷ all_pieces cs vs) ∷ []
      → (w rest : List ℕ) → Words pending rest → w ≡ items_text (end_of pending) (x ∷ items) ++ rest → Opening Part.Items pending w
  open_item kids e lead x items h vs m lines w rest more f =
      let left = items_text (end_of pending) items ++ rest in
      let g = spread cs Behind vs left i m (record { value = items; meets = h; rest = rest; more = more; spelled = refl }) in
      record {
        piece = k;
        kids = kids;
        lead = lead;
        rest = g.word;
        more = subst (λ q. Words q g.word) (sym e) g.more;
        spelled = f ∙ (one_line_text x items vs rest lines ∙ (sym (g.along (k ∷ []) tt) ∙ (sym (behind k (end_of (cs ++ Behind)) g.word) ∙ ap (λ q. k ++ end_of q ∷ g.word) (sym e))));
      }

  pub close_item : (put : Vals cs → Item) → ((vs : Vals cs) → AreVals cs vs → IsItem (put vs)) → ((vs : Vals cs) → item_lines (put vs) ≡ (k ∷ all_pieces cs vs) ∷ [])
      → (w : List ℕ) → Words (cs ++ Behind) w → Words (Part.Items ∷ pending) (k ++ end_of (cs ++ Behind) ∷ w)
  close_item put meets lines w m =
      let g = gather cs Behind w i m in
      record {
        value = put g.values ∷ g.more.value;
        meets = (meets g.values g.meet, g.more.meets);
        rest = g.more.rest;
        more = g.more.more;
        spelled = behind k (end_of (cs ++ Behind)) w ∙ (g.along (k ∷ []) tt
            ∙ (ap (λ q. text_with_end line_feed (k ∷ all_pieces cs g.values) ++ q) g.more.spelled ∙ sym (one_line_text (put g.values) g.more.value g.values g.more.rest (lines g.values))));
      }

-- lines of one kind, and then the items

module _ (s : Part) (plain : is_plain_part s ≡ true) (starts : starts_line s ≡ true) (pending : List Part) where
  abbrev Lines : ℕ → List Part
  Lines n = (copies n s ++ Part.Items ∷ []) ++ pending

  pub lines_end : (n : ℕ) → end_of (Lines n) ≡ line_feed
  lines_end zero = refl
  lines_end (suc n) = rw starts refl

  line_of : (n : ℕ) (x : Val s) → part_text s (end_of (Lines n)) x ≡ line_text (pieces_of s x)
  line_of n x = plain_text s plain (end_of (Lines n)) x ∙ (ap (λ e. text_with_end e (pieces_of s x)) (lines_end n) ∙ sym (line_with_end (pieces_of s x)))

  pub spread_lines : (xs : List (Val s)) → Each (IsVal s) xs → (r : List ℕ) → Words (Part.Items ∷ pending) r → Words (Lines (length xs)) (flat_map line_text (map (pieces_of s) xs) ++ r)
  spread_lines [] h r m = m
  spread_lines (x ∷ xs) h r m = record {
    value = x;
    meets = h.0;
    rest = flat_map line_text (map (pieces_of s) xs) ++ r;
    more = spread_lines xs h.1 r m;
    spelled = append_assoc (line_text (pieces_of s x)) (flat_map line_text (map (pieces_of s) xs)) r ∙ ap (λ q. q ++ (flat_map line_text (map (pieces_of s) xs) ++ r)) (sym (line_of (length xs) x));
  }

  pub record GatheringLines (n : ℕ) (w : List ℕ) : Type 0 where
    pub values : List (Val s)
    pub count : length values ≡ n
    pub each : Each (IsVal s) values
    pub rest : List ℕ
    pub more : Words (Part.Items ∷ pending) rest
    pub spelled : w ≡ flat_map line_text (map (pieces_of s) values) ++ rest

  pub gather_lines : (n : ℕ) (w : List ℕ) → Words (Lines n) w → GatheringLines n w
  gather_lines zero w m = record { values = []; count = refl; each = tt; rest = w; more = m; spelled = refl }
  gather_lines (suc n) w m =
      let g = gather_lines n m.rest m.more in
      record {
        values = m.value ∷ g.values;
        count = ap suc g.count;
        each = (m.meets, g.each);
        rest = g.rest;
        more = g.more;
        spelled = m.spelled ∙ (ap (λ q. q ++ m.rest) (line_of n m.value) ∙ (ap (λ q. line_text (pieces_of s m.value) ++ q) g.spelled
            ∙ sym (append_assoc (line_text (pieces_of s m.value)) (flat_map line_text (map (pieces_of s) g.values)) g.rest)));
      }

-- the clauses of a block

abbrev ClauseLines : List Clause → List ℕ
ClauseLines cs = flat_map line_text (map (λ c. codes "D" ∷ clause_pieces c) cs)

abbrev StepLines : List Step → List ℕ
StepLines ss = flat_map line_text (map step_pieces ss)

three : (a b c d : List ℕ) → (a ++ (b ++ c)) ++ d ≡ a ++ (b ++ (c ++ d))
three a b c d = append_assoc a (b ++ c) d ∙ ap (λ q. a ++ q) (append_assoc b c d)

open_clauses : (pending : List Part) (w : List ℕ) → Words (Part.Clauses ∷ pending) w → Opening Part.Clauses pending w
open_clauses pending w m =
    let cs = m.value.0 in
    let items = m.value.1 in
    let n = length cs in
    let r = items_text (end_of pending) items ++ m.rest in
    let left = ClauseLines cs ++ r in
    record {
      piece = decimal n;
      kids = copies n Part.Clause ++ Part.Items ∷ [];
      lead = (n, (m.meets.0.0, (refl, refl)));
      rest = left;
      more = spread_lines Part.Clause refl refl pending cs m.meets.0.1 r (record { value = items; meets = m.meets.1; rest = m.rest; more = m.more; spelled = refl });
      spelled = m.spelled ∙ (three (line_text (decimal n ∷ [])) (ClauseLines cs) (items_text (end_of pending) items) m.rest
          ∙ (append_assoc (decimal n) (line_feed ∷ []) left ∙ ap (λ e. decimal n ++ e ∷ left) (sym (lines_end Part.Clause refl refl pending n))));
    }

close_clauses : (pending : List Part) (n : ℕ) → IsCount n → Closes Part.Clauses pending (decimal n) (copies n Part.Clause ++ Part.Items ∷ [])
close_clauses pending n l = λ w m.
    let g = gather_lines Part.Clause refl refl pending n w m in
    let cs = g.values in
    let items = g.more.value in
    let left = ClauseLines cs ++ (items_text (end_of pending) items ++ g.more.rest) in
    record {
      value = (cs, items);
      meets = ((subst IsCount (sym g.count) l, g.each), g.more.meets);
      rest = g.more.rest;
      more = g.more.more;
      spelled = ap (λ e. decimal n ++ e ∷ w) (lines_end Part.Clause refl refl pending n) ∙ (ap (λ q. decimal n ++ line_feed ∷ q) (g.spelled ∙ ap (λ q. ClauseLines cs ++ q) g.more.spelled)
          ∙ (ap (λ k. decimal k ++ line_feed ∷ left) (sym g.count) ∙ (sym (append_assoc (decimal (length cs)) (line_feed ∷ []) left)
          ∙ sym (three (line_text (decimal (length cs) ∷ [])) (ClauseLines cs) (items_text (end_of pending) items) g.more.rest))));
    }

-- the formula and the steps of a theorem

proof_line : (n : ℕ) (t : Term) → line_text (decimal n ∷ term_pieces t) ≡ (decimal n ++ space ∷ []) ++ text_with_end line_feed (term_pieces t)
proof_line n t = line_with_end (decimal n ∷ term_pieces t) ∙ text_cons line_feed (decimal n) (term_pieces t) (some_pieces Part.Term refl t)

open_proof : (pending : List Part) (w : List ℕ) → Words (Part.Proof ∷ pending) w → Opening Part.Proof pending w
open_proof pending w m =
    let t = m.value.0 in
    let ss = m.value.1.0 in
    let items = m.value.1.1 in
    let n = length ss in
    let r = items_text (end_of pending) items ++ m.rest in
    let steps = StepLines ss ++ r in
    let e = end_of ((copies n Part.Step ++ Part.Items ∷ []) ++ pending) in
    let ends : e ≡ line_feed = lines_end Part.Step refl refl pending n in
    let left = text_with_end e (term_pieces t) ++ steps in
    record {
      piece = decimal n;
      kids = Part.Term ∷ (copies n Part.Step ++ Part.Items ∷ []);
      lead = (n, (m.meets.1.0.0, (refl, refl)));
      rest = left;
      more = record {
        value = t;
        meets = m.meets.0;
        rest = steps;
        more = spread_lines Part.Step refl refl pending ss m.meets.1.0.1 r (record { value = items; meets = m.meets.1.1; rest = m.rest; more = m.more; spelled = refl });
        spelled = refl;
      };
      spelled = m.spelled ∙ (three (line_text (decimal n ∷ term_pieces t)) (StepLines ss) (items_text (end_of pending) items) m.rest
          ∙ (ap (λ q. q ++ steps) (proof_line n t ∙ ap (λ b. (decimal n ++ space ∷ []) ++ text_with_end b (term_pieces t)) (sym ends))
          ∙ (append_assoc (decimal n ++ space ∷ []) (text_with_end e (term_pieces t)) steps ∙ append_assoc (decimal n) (space ∷ []) left)));
    }

close_proof : (pending : List Part) (n : ℕ) → IsCount n → Closes Part.Proof pending (decimal n) (Part.Term ∷ (copies n Part.Step ++ Part.Items ∷ []))
close_proof pending n l = λ w m.
    let g = gather_lines Part.Step refl refl pending n m.rest m.more in
    let t = m.value in
    let ss = g.values in
    let items = g.more.value in
    let e = end_of ((copies n Part.Step ++ Part.Items ∷ []) ++ pending) in
    let ends : e ≡ line_feed = lines_end Part.Step refl refl pending n in
    let steps = StepLines ss ++ (items_text (end_of pending) items ++ g.more.rest) in
    let left = text_with_end e (term_pieces t) ++ steps in
    record {
      value = (t, (ss, items));
      meets = (m.meets, ((subst IsCount (sym g.count) l, g.each), g.more.meets));
      rest = g.more.rest;
      more = g.more.more;
      spelled = ap (λ q. decimal n ++ space ∷ q) (m.spelled ∙ ap (λ q. text_with_end e (term_pieces t) ++ q) (g.spelled ∙ ap (λ q. StepLines ss ++ q) g.more.spelled))
          ∙ (ap (λ k. decimal k ++ space ∷ left) (sym g.count)
          ∙ (sym (append_assoc (decimal (length ss)) (space ∷ []) left) ∙ (sym (append_assoc (decimal (length ss) ++ space ∷ []) (text_with_end e (term_pieces t)) steps)
          ∙ (ap (λ q. q ++ steps) (ap (λ b. (decimal (length ss) ++ space ∷ []) ++ text_with_end b (term_pieces t)) ends ∙ sym (proof_line (length ss) t))
          ∙ sym (three (line_text (decimal (length ss) ∷ term_pieces t)) (StepLines ss) (items_text (end_of pending) items) g.more.rest)))));
    }

-- items

block_line : (end : ℕ) (i : Bool) (names : List (List ℕ)) (cs : List Clause) (items : List Item) (rest : List ℕ) → items_text end (block i names cs ∷ items) ++ rest
    ≡ text_with_end space (codes "B" ∷ (block_piece i ∷ (list_pieces (λ n. n ∷ []) names ++ []))) ++ (part_text Part.Clauses end (cs, items) ++ rest)
block_line end i names cs items rest =
    let ps = codes "B" ∷ (block_piece i ∷ list_pieces (λ n. n ∷ []) names) in
    let last = decimal (length cs) ∷ [] in
    let line : line_text (ps ++ last) ≡ text_with_end space ps ++ line_text last = line_with_end (ps ++ last) ∙ text_more line_feed ps last tt tt in
    let tail = ClauseLines cs ++ items_text end items in
    ap (λ q. q ++ rest) (lines_text end (block i names cs) items ∙ (append_assoc (line_text (ps ++ last)) (ClauseLines cs) (items_text end items)
    ∙ (ap (λ q. q ++ tail) line ∙ append_assoc (text_with_end space ps) (line_text last) tail)))
    ∙ (append_assoc (text_with_end space ps) (line_text last ++ tail) rest ∙ ap (λ q. text_with_end space (codes "B" ∷ (block_piece i ∷ q)) ++ (part_text Part.Clauses end (cs, items) ++ rest)) (sym (append-nil (list_pieces (λ n. n ∷ []) names))))

theorem_line : (end : ℕ) (x : List ℕ) (t : Term) (ss : List Step) (items : List Item) (rest : List ℕ) → items_text end (theorem x t ss ∷ items) ++ rest
    ≡ text_with_end space (codes "T" ∷ (x ∷ [])) ++ (part_text Part.Proof end (t, (ss, items)) ++ rest)
theorem_line end x t ss items rest =
    let ps = codes "T" ∷ (x ∷ []) in
    let last = decimal (length ss) ∷ term_pieces t in
    let line : line_text (ps ++ last) ≡ text_with_end space ps ++ line_text last = line_with_end (ps ++ last) ∙ (text_more line_feed ps last tt tt ∙ ap (λ q. text_with_end space ps ++ q) (sym (line_with_end last))) in
    let tail = StepLines ss ++ items_text end items in
    ap (λ q. q ++ rest) (lines_text end (theorem x t ss) items ∙ (append_assoc (line_text (ps ++ last)) (StepLines ss) (items_text end items)
    ∙ (ap (λ q. q ++ tail) line ∙ append_assoc (text_with_end space ps) (line_text last) tail)))
    ∙ append_assoc (text_with_end space ps) (line_text last ++ tail) rest

open_items_by : (pending : List Part) (w : List ℕ) (items : List Item) → Each IsItem items → (rest : List ℕ) → Words pending rest → w ≡ items_text (end_of pending) items ++ rest → Opening Part.Items pending w
open_items_by pending w [] h rest m e = record { piece = codes "end"; kids = []; lead = refl; rest = rest; more = m; spelled = e ∙ append_assoc (codes "end") (end_of pending ∷ []) rest }
open_items_by pending w (kind x ∷ items) h rest m e =
    open_item pending (Part.Name ∷ []) refl (codes "K") (Part.Name ∷ (Part.Items ∷ [])) refl refl (kind x) items h.1 (x, tt) (h.0, tt) refl w rest m e
open_items_by pending w (const x ty ∷ items) h rest m e =
    open_item pending (Part.Name ∷ (Part.Type ∷ [])) refl (codes "C") (Part.Name ∷ (Part.Type ∷ (Part.Items ∷ []))) refl refl (const x ty) items h.1 (x, (ty, tt)) (h.0.0, (h.0.1, tt))
    (ap (λ q. (codes "C" ∷ (x ∷ q)) ∷ []) (sym (append-nil (type_pieces ty)))) w rest m e
open_items_by pending w (program c ∷ items) h rest m e =
    open_item pending clause_parts refl (codes "S") (Part.Variables ∷ (Part.Term ∷ (Part.Term ∷ (Part.Items ∷ [])))) refl refl (program c) items h.1 (c.variables, (c.head, (c.body, tt))) (h.0.0, (h.0.1, (h.0.2, tt)))
    (ap (λ q. (codes "S" ∷ (list_pieces variable_pieces c.variables ++ (term_pieces c.head ++ q))) ∷ []) (sym (append-nil (term_pieces c.body)))) w rest m e
open_items_by pending w (block i names cs ∷ items) h rest m e =
    let left = part_text Part.Clauses (end_of pending) (cs, items) ++ rest in
    let g = spread (Part.Letter ∷ (Part.Names ∷ [])) (Part.Clauses ∷ pending) (i, (names, tt)) left refl (tt, (h.0.0, tt)) (record { value = (cs, items); meets = (h.0.1, h.1); rest = rest; more = m; spelled = refl }) in
    record {
      piece = codes "B";
      kids = Part.Letter ∷ (Part.Names ∷ (Part.Clauses ∷ []));
      lead = refl;
      rest = g.word;
      more = g.more;
      spelled = e ∙ (block_line (end_of pending) i names cs items rest ∙ (sym (g.along (codes "B" ∷ []) tt) ∙ sym (behind (codes "B") space g.word)));
    }
open_items_by pending w (theorem x t ss ∷ items) h rest m e =
    let left = part_text Part.Proof (end_of pending) (t, (ss, items)) ++ rest in
    let g = spread (Part.Name ∷ []) (Part.Proof ∷ pending) (x, tt) left refl (h.0.0, tt) (record { value = (t, (ss, items)); meets = (h.0.1, (h.0.2, h.1)); rest = rest; more = m; spelled = refl }) in
    record {
      piece = codes "T";
      kids = Part.Name ∷ (Part.Proof ∷ []);
      lead = refl;
      rest = g.word;
      more = g.more;
      spelled = e ∙ (theorem_line (end_of pending) x t ss items rest ∙ (sym (g.along (codes "T" ∷ []) tt) ∙ sym (behind (codes "T") space g.word)));
    }

close_block : (pending : List Part) → Closes Part.Items pending (codes "B") (Part.Letter ∷ (Part.Names ∷ (Part.Clauses ∷ [])))
close_block pending = λ w m.
    let g = gather (Part.Letter ∷ (Part.Names ∷ [])) (Part.Clauses ∷ pending) w refl m in
    let cs = g.more.value.0 in
    let items = g.more.value.1 in
    record {
      value = block g.values.0 g.values.1.0 cs ∷ items;
      meets = ((g.meet.1.0, g.more.meets.0), g.more.meets.1);
      rest = g.more.rest;
      more = g.more.more;
      spelled = behind (codes "B") space w ∙ (g.along (codes "B" ∷ []) tt ∙ (ap (λ q. text_with_end space (codes "B" ∷ (block_piece g.values.0 ∷ (list_pieces (λ n. n ∷ []) g.values.1.0 ++ []))) ++ q) g.more.spelled
          ∙ sym (block_line (end_of pending) g.values.0 g.values.1.0 cs items g.more.rest)));
    }

close_theorem : (pending : List Part) → Closes Part.Items pending (codes "T") (Part.Name ∷ (Part.Proof ∷ []))
close_theorem pending = λ w m.
    let g = gather (Part.Name ∷ []) (Part.Proof ∷ pending) w refl m in
    let t = g.more.value.0 in
    let ss = g.more.value.1.0 in
    let items = g.more.value.1.1 in
    record {
      value = theorem g.values.0 t ss ∷ items;
      meets = ((g.meet.0, g.more.meets.0, g.more.meets.1.0), g.more.meets.1.1);
      rest = g.more.rest;
      more = g.more.more;
      spelled = behind (codes "T") space w ∙ (g.along (codes "T" ∷ []) tt ∙ (ap (λ q. text_with_end space (codes "T" ∷ (g.values.0 ∷ [])) ++ q) g.more.spelled
          ∙ sym (theorem_line (end_of pending) g.values.0 t ss items g.more.rest)));
    }

close_end : (pending : List Part) → Closes Part.Items pending (codes "end") []
close_end pending = λ w m. record { value = []; meets = tt; rest = w; more = m; spelled = behind (codes "end") (end_of pending) w }

close_item_rows : (pending : List Part) → EachRow (Closes Part.Items pending) item_rows
close_item_rows pending = (
  close_item pending (Part.Name ∷ []) refl (codes "K") (λ vs. kind vs.0) (λ vs m. m.0) (λ vs. refl),
  (
    close_item pending (Part.Name ∷ (Part.Type ∷ [])) refl (codes "C") (λ vs. const vs.0 vs.1.0) (λ vs m. (m.0, m.1.0)) (λ vs. ap (λ q. (codes "C" ∷ (vs.0 ∷ q)) ∷ []) (sym (append-nil (type_pieces vs.1.0)))),
    (
      close_block pending,
      (
        close_item pending clause_parts refl (codes "S") (λ vs. program (record { variables = vs.0; head = vs.1.0; body = vs.1.1.0 })) (λ vs m. (m.0, m.1.0, m.1.1.0))
            (λ vs. ap (λ q. (codes "S" ∷ (list_pieces variable_pieces vs.0 ++ (term_pieces vs.1.0 ++ q))) ∷ []) (sym (append-nil (term_pieces vs.1.1.0)))),
        (
          close_theorem pending,
          (close_end pending, tt),
        ),
      ),
    ),
  ),
)

-- the first line

open_whole : (pending : List Part) (w : List ℕ) → Words (Part.Whole ∷ pending) w → Opening Part.Whole pending w
open_whole pending w m = record {
  piece = codes "abella-cert";
  kids = Part.Version ∷ [];
  lead = refl;
  rest = part_text Part.Version (end_of pending) m.value ++ m.rest;
  more = record { value = m.value; meets = m.meets; rest = m.rest; more = m.more; spelled = refl };
  spelled = m.spelled;
}

open_version : (pending : List Part) (w : List ℕ) → Words (Part.Version ∷ pending) w → Opening Part.Version pending w
open_version pending w m = record {
  piece = codes "1";
  kids = Part.Items ∷ [];
  lead = refl;
  rest = items_text (end_of pending) m.value ++ m.rest;
  more = record { value = m.value; meets = m.meets; rest = m.rest; more = m.more; spelled = refl };
  spelled = m.spelled;
}

close_whole : (pending : List Part) → Closes Part.Whole pending (codes "abella-cert") (Part.Version ∷ [])
close_whole pending = λ w m. record { value = m.value; meets = m.meets; rest = m.rest; more = m.more; spelled = ap (λ q. codes "abella-cert" ++ space ∷ q) m.spelled }

close_version : (pending : List Part) → Closes Part.Version pending (codes "1") (Part.Items ∷ [])
close_version pending = λ w m. record { value = m.value; meets = m.meets; rest = m.rest; more = m.more; spelled = ap (λ q. codes "1" ++ line_feed ∷ q) m.spelled }

-- EVERY PART

pub open_part : (s : Part) (pending : List Part) (w : List ℕ) → Words (s ∷ pending) w → Opening s pending w
open_part Part.Whole pending w m = open_whole pending w m
open_part Part.Version pending w m = open_version pending w m
open_part Part.Items pending w m = open_items_by pending w m.value m.meets m.rest m.more m.spelled
open_part Part.Clauses pending w m = open_clauses pending w m
open_part Part.Proof pending w m = open_proof pending w m
open_part s pending w m = open_plain s pending w refl m

at_number : (s : Part) (pending : List Part) (p : List ℕ) (kids : List Part) (limit : ℕ) (after : ℕ → List Part) → (n : ℕ) × ((n < limit) × ((p ≡ decimal n) × (kids ≡ after n))) → ((n : ℕ) → n < limit → Closes s pending (decimal n) (after n)) → Closes s pending p kids
at_number s pending p kids limit after h f = subst (λ q. Closes s pending q kids) (sym h.1.1.0) (subst (λ q. Closes s pending (decimal h.0) q) (sym h.1.1.1) (f h.0 h.1.0))

pub close_part : (s : Part) (pending : List Part) (p : List ℕ) (kids : List Part) → IsLead (lead_of s) p kids → Closes s pending p kids
close_part Part.Whole pending p kids h = row_of (Closes Part.Whole pending) whole_rows p kids (close_whole pending, tt) h
close_part Part.Version pending p kids h = row_of (Closes Part.Version pending) version_rows p kids (close_version pending, tt) h
close_part Part.Items pending p kids h = row_of (Closes Part.Items pending) item_rows p kids (close_item_rows pending) h
close_part Part.Clauses pending p kids h = at_number Part.Clauses pending p kids (2 ^ 64) (λ n. copies n Part.Clause ++ Part.Items ∷ []) h (close_clauses pending)
close_part Part.Proof pending p kids h = at_number Part.Proof pending p kids (2 ^ 64) (λ n. Part.Term ∷ (copies n Part.Step ++ Part.Items ∷ [])) h (close_proof pending)
close_part s pending p kids h = close_plain s pending refl p kids h
