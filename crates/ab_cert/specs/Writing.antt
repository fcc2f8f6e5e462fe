-- Tools of the writer's private functions: the pieces that what is lent stands for, and lines that begin by a line feed.
use Rattle.std.specs.Prelude.{◌≡◌, ℕ, List, [], ◌∷◌, ◌++◌, length, map, codes, decimal, Option, Some, None}
use Rattle.std.specs.List.{flat_map}
use Rattle.ab_cert.specs.declared.row.Piece.{Piece}
use Rattle.ab_cert.specs.declared.row.Series.{Series}
use Rattle.ab_cert.specs.declared.row.Stretch.{Stretch}
use Rattle.ab_cert.specs.declared.row.Row.{Row}
use Rattle.ab_cert.specs.declared.head.CertSign.{CertSign}
use Rattle.ab_cert.specs.declared.clause.CertClause.{CertClause}
use Rattle.ab_cert.specs.declared.step.CertStep.{CertStep}
use Rattle.ab_cert.specs.declared.cert.CertItem.{CertItem}
use Rattle.ab_cert.specs.Pieces.{Pieces, type_pieces, detail_pieces, head_pieces, term_pieces, label_piece, flag_piece, replace_pieces, variable_pieces, block_piece, step_pieces, clause_pieces, item_lines}
use Rattle.ab_cert.specs.Texts.{space, line_feed}
use Rattle.ab_cert.specs.Signs.{type_of, sign_of, head_of}
use Rattle.ab_cert.specs.TypeNodes.{type_node_piece}
use Rattle.ab_cert.specs.TermNodes.{node_of, node_pieces}
use Rattle.ab_cert.specs.Values.{term_of, label_of, replace_of, variable_of, step_of, clause_of, item_of}

-- each piece behind a space
abbrev pub led : Pieces → List ℕ
led [] = []
led (p ∷ ps) = space ∷ (p ++ led ps)

-- a line behind a line feed
abbrev pub line_behind : Pieces → List ℕ
line_behind [] = line_feed ∷ []
line_behind (p ∷ ps) = line_feed ∷ (p ++ led ps)

abbrev pub piece_of : Piece → List ℕ
piece_of (Piece.Bytes bytes) = bytes.now
piece_of (Piece.Number n) = decimal n

abbrev pub sign_pieces : CertSign → Pieces
sign_pieces s = (sign_of s).word ∷ detail_pieces (sign_of s).detail

abbrev pub series_length : Series → ℕ
series_length (Series.TypeNodes ns) = length ns.now
series_length (Series.TermNodes ns) = length ns.now
series_length (Series.Names xs) = length xs.now
series_length (Series.Labels ls) = length (map label_of ls.now)
series_length (Series.Numbers ns) = length ns.now
series_length (Series.Variables vs) = length (map variable_of vs.now)
series_length (Series.Replaces rs) = length (map replace_of rs.now)

abbrev pub series_pieces : Series → Pieces
series_pieces (Series.TypeNodes ns) = map type_node_piece ns.now
series_pieces (Series.TermNodes ns) = flat_map node_pieces (map node_of ns.now)
series_pieces (Series.Names xs) = flat_map (λ x. x ∷ []) xs.now
series_pieces (Series.Labels ls) = flat_map (λ l. label_piece l ∷ []) (map label_of ls.now)
series_pieces (Series.Numbers ns) = flat_map (λ n. decimal n ∷ []) ns.now
series_pieces (Series.Variables vs) = flat_map variable_pieces (map variable_of vs.now)
series_pieces (Series.Replaces rs) = flat_map replace_pieces (map replace_of rs.now)

abbrev pub stretch_pieces : Stretch → Pieces
stretch_pieces Stretch.Nothing = []
stretch_pieces (Stretch.Number n) = decimal n ∷ []
stretch_pieces (Stretch.Name x) = x.now ∷ []
stretch_pieces (Stretch.Label l) = label_piece (label_of l.now) ∷ []
stretch_pieces (Stretch.Flag b) = flag_piece b ∷ []
stretch_pieces (Stretch.Letter b) = block_piece b ∷ []
stretch_pieces (Stretch.Type ty) = type_pieces (type_of ty.now)
stretch_pieces (Stretch.Head h) = head_pieces (head_of h.now)
stretch_pieces (Stretch.Sign s) = sign_pieces s.now
stretch_pieces (Stretch.Term t) = term_pieces (term_of t.now)
stretch_pieces (Stretch.Listing s) = decimal (series_length s) ∷ series_pieces s
stretch_pieces (Stretch.Each s) = series_pieces s

abbrev pub row_pieces : Row → Pieces
row_pieces r = piece_of r.head ∷ (stretch_pieces r.first ++ (stretch_pieces r.second ++ (stretch_pieces r.third ++ stretch_pieces r.fourth)))

-- the row of these pieces, if there is one
abbrev pub IsRow : Pieces → Option Row → Type 0
IsRow pieces None = pieces ≡ []
IsRow pieces (Some r) = row_pieces r ≡ pieces

-- the stretches of a stack, the last one first
abbrev pub stack_pieces : List Stretch → Pieces → Pieces
stack_pieces [] below = below
stack_pieces (s ∷ ss) below = stack_pieces ss (stretch_pieces s ++ below)

-- the lines of steps, of clauses and of items, each behind a line feed
abbrev pub steps_text : List CertStep → List ℕ
steps_text ss = flat_map line_behind (map step_pieces (map step_of ss))

abbrev pub clauses_text : List CertClause → List ℕ
clauses_text cs = flat_map line_behind (map (λ c. codes "D" ∷ clause_pieces c) (map clause_of cs))

abbrev pub items_text : List CertItem → List ℕ
items_text is = flat_map line_behind (flat_map item_lines (map item_of is))
