-- The text of drawn lines is read as their events.
use Rattle.std.proofs.Common.{◌≡◌, ℕ, suc, ◌+◌, ◌-◌, ◌*◌, ◌<◌, ◌≤◌, ◌∙◌, true, false, ◌&&◌, ◌||◌, eqb, leb, List, [], ◌∷◌, ◌++◌, length, get_or, map, codes, Ok, ap, sym, refl, arith, append_assoc, append-nil}
use Rattle.std.specs.List.{flat_map, AllByRecursion}
use Rattle.std.specs.Fmt.{decimal}
use Rattle.std.specs.Str.Lines.{lines}
use Rattle.std.proofs.lemmas.Bool.{and_from, lt-ltb, le-leb}
use Rattle.std.proofs.lemmas.List.{get_or_at, take_at, length-append}
use Rattle.std.proofs.lemmas.List.Folds.{list_all-append}
use Rattle.mind_base.specs.Name.{each_prints}
use Rattle.mind_base.specs.declared.links.LinkKind.{LinkKind}
use Rattle.mind_base.specs.declared.links.LinkKind.TheVariants.{Up, Down, To, From}
use Rattle.mind_base.specs.declared.links.LinkName.{LinkName}
use Rattle.mind_base.specs.declared.links.Side.{Side}
use Rattle.mind_base.specs.declared.links.Side.TheVariants.{Messages, Acks}
use Rattle.mind_base.specs.declared.events.Event.{Event}
use Rattle.schedule_text.specs.declared.entries.Entry.TheVariants.{One}
use Rattle.schedule_text.specs.declared.sizes.Sizes.{Sizes}
use Rattle.plain_text.specs.Blank.{is_text}
use Rattle.plain_text.specs.Reading.{lines_read}
use Rattle.plain_text.proofs.Callers.{first_line}
use Rattle.schedule_text.specs.Word.{words_of}
use Rattle.schedule_text.specs.declared.keywords.Keyword.{Keyword}
use Rattle.schedule_text.specs.declared.keywords.Keyword.TheVariants as keywords
use Rattle.schedule_text.specs.Keyword.{keyword_of, words_wanted}
use Rattle.schedule_text.specs.Entry.{entry_of, worded, said, frame_event}
use Rattle.schedule_text.specs.declared.fates.Fate.{Fate}
use Rattle.schedule_text.specs.declared.fates.Fate.TheVariants.{Deliver, Lose, Repeat}
use Rattle.schedule_text.specs.Fate.{befalls}
use Rattle.schedule_text.specs.Schedule.{read_from, after_line, with_line}
use Rattle.schedule_text.specs.Argument.{number_up_to, number_below}
use Rattle.schedule_text.specs.Link.{ends_of, link_kind_of, link_number, link_named, wire_named}
use Rattle.rack_gen.specs.declared.wires.Wire.{Wire}
use Rattle.rack_gen.specs.Wire.{letter_of, side_mark, wire_name}
use Rattle.rack_gen.proofs.Numerals.{numeral}
use Rattle.rack_gen.specs.declared.lines.Line.{Line}
use Rattle.rack_gen.specs.declared.lines.Line.TheVariants.{Step, Drain, Frame, Epoch, Settle}
use Rattle.rack_gen.specs.Line.{event_of, word_of, words_in, spaced, line_text}
use Rattle.rack_gen.proofs.Spacing.{IsWord, words_spaced, text_spaced}
use Rattle.rack_gen.proofs.WireLists.{IsWireIn}
use Rattle.rack_gen.proofs.Fitting.{IsLineIn}

-- ---- numbers and names

pub reads_below : (bound n : ℕ) → n < bound → n < 64 → number_below bound (decimal n) ≡ Ok n
unfolding number_below number_up_to
reads_below bound n within small = rw ((numeral n small).reads, lt-ltb n bound within) refl

pub reads_up_to : (n : ℕ) → n < 64 → number_up_to 4294967295 (decimal n) ≡ Ok n
unfolding number_up_to
reads_up_to n small = rw ((numeral n small).reads) refl

reads_place : (bound n : ℕ) → n < bound → n < 64 → link_number bound (decimal n) ≡ Ok n
unfolding link_number
reads_place bound n within small = rw ((numeral n small).leads, reads_below bound n within small) refl

-- the name of a link
abbrev link_text : LinkName → List ℕ
link_text link = letter_of link.kind ++ decimal link.number

reads_link : (sizes : Sizes) (kind : LinkKind) (number : ℕ) → number < ends_of sizes kind → number < 64
    → link_named sizes (letter_of kind ++ decimal number) ≡ Ok (record { kind = kind; number = number })
unfolding link_named link_kind_of
reads_link sizes Up number within small = rw (reads_place sizes.blades number within small) refl
reads_link sizes Down number within small = rw (reads_place sizes.blades number within small) refl
reads_link sizes To number within small = rw (reads_place sizes.memories number within small) refl
reads_link sizes From number within small = rw (reads_place sizes.memories number within small) refl

-- the last byte of a letter and digits is that of the digits
last_digit : (kind : LinkKind) (digits : List ℕ) → 0 < length digits
    → get_or (letter_of kind ++ digits) (length (letter_of kind ++ digits) - 1) 0 ≡ get_or digits (length digits - 1) 0
last_digit kind [] some = absurd (omega arith)
last_digit Up (d ∷ ds) some = let e : length (117 ∷ d ∷ ds) - 1 ≡ suc (length (d ∷ ds) - 1) = omega arith in rw e refl
last_digit Down (d ∷ ds) some = let e : length (100 ∷ d ∷ ds) - 1 ≡ suc (length (d ∷ ds) - 1) = omega arith in rw e refl
last_digit To (d ∷ ds) some = let e : length (116 ∷ d ∷ ds) - 1 ≡ suc (length (d ∷ ds) - 1) = omega arith in rw e refl
last_digit From (d ∷ ds) some = let e : length (102 ∷ d ∷ ds) - 1 ≡ suc (length (d ∷ ds) - 1) = omega arith in rw e refl

-- a name that ends with no a is that of a wire of messages
reads_messages : (sizes : Sizes) (name : List ℕ) (link : LinkName) → eqb (get_or name (length name - 1) 0) 97 ≡ false → link_named sizes name ≡ Ok link
    → wire_named sizes name ≡ Ok (link, Messages)
unfolding wire_named
reads_messages sizes name link ends is = rw (ends, is) refl

reads_acks : (sizes : Sizes) (name : List ℕ) (link : LinkName) → link_named sizes name ≡ Ok link → wire_named sizes (name ++ 97 ∷ []) ≡ Ok (link, Acks)
unfolding wire_named
reads_acks sizes name link is =
    let n : length name ≡ length (name ++ 97 ∷ []) - 1 = omega (arith, length-append name (97 ∷ [])) in
    rw (get_or_at name 97 [] 0 (length (name ++ 97 ∷ []) - 1) n, take_at name (97 ∷ []) (length (name ++ 97 ∷ []) - 1) n, is) refl

reads_side : (sizes : Sizes) (kind : LinkKind) (number : ℕ) (side : Side) → number < ends_of sizes kind → number < 64
    → wire_named sizes (letter_of kind ++ decimal number ++ side_mark side) ≡ Ok (record { kind = kind; number = number }, side)
reads_side sizes kind number Messages within small =
    let digits = numeral number small in
    let name : List ℕ = letter_of kind ++ decimal number in
    let last : eqb (get_or name (length name - 1) 0) 97 ≡ false = ap (λ b. eqb b 97) (last_digit kind (decimal number) digits.some) ∙ digits.ends in
    ap (wire_named sizes) (append-nil name) ∙ reads_messages sizes name _ last (reads_link sizes kind number within small)
reads_side sizes kind number Acks within small = reads_acks sizes (letter_of kind ++ decimal number) _ (reads_link sizes kind number within small)

pub reads_wire : (sizes : Sizes) (wire : Wire) → wire.link.number < ends_of sizes wire.link.kind → wire.link.number < 64
    → wire_named sizes (wire_name wire) ≡ Ok (wire.link, wire.side)
reads_wire sizes wire within small = reads_side sizes wire.link.kind wire.link.number wire.side within small

-- ---- lines

letter_prints : (kind : LinkKind) → each_prints (letter_of kind) ≡ true
letter_prints Up = refl
letter_prints Down = refl
letter_prints To = refl
letter_prints From = refl

mark_prints : (side : Side) → each_prints (side_mark side) ≡ true
mark_prints Messages = refl
mark_prints Acks = refl

one_letter : (kind : LinkKind) → length (letter_of kind) ≡ 1
one_letter Up = refl
one_letter Down = refl
one_letter To = refl
one_letter From = refl

mark_short : (side : Side) → length (side_mark side) ≤ 1
mark_short Messages = omega arith
mark_short Acks = omega arith

number_word : (n : ℕ) → n < 64 → IsWord (decimal n)
number_word n small = let digits = numeral n small in record { some = digits.some; prints = digits.prints }

both_print : (xs ys : List ℕ) → each_prints xs ≡ true → each_prints ys ≡ true → each_prints (xs ++ ys) ≡ true
both_print xs ys p q = list_all-append (λ b. leb 0x21 b && leb b 0x7e) xs ys ∙ and_from (each_prints xs) (each_prints ys) p q

name_word : (wire : Wire) → wire.link.number < 64 → IsWord (wire_name wire)
name_word wire small =
    let front : List ℕ = letter_of wire.link.kind ++ decimal wire.link.number in record {
      some = omega (
        arith,
        length-append front (side_mark wire.side),
        length-append (letter_of wire.link.kind) (decimal wire.link.number),
        one_letter wire.link.kind,
      );
      prints = both_print front (side_mark wire.side) (both_print (letter_of wire.link.kind) (decimal wire.link.number) (letter_prints wire.link.kind) (numeral wire.link.number small).prints) (mark_prints wire.side);
    }

-- a rack has at most 64 threads, and fewer blades of either kind
pub record IsSmall (sizes : Sizes) : Type 0 where
  pub threads : sizes.threads ≤ 64
  pub blades : sizes.blades ≤ 64
  pub memories : sizes.memories ≤ 64

few_ends : (sizes : Sizes) (kind : LinkKind) (n : ℕ) → IsSmall sizes → n < ends_of sizes kind → n < 64
few_ends sizes Up n small within = omega (arith, small.blades)
few_ends sizes Down n small within = omega (arith, small.blades)
few_ends sizes To n small within = omega (arith, small.memories)
few_ends sizes From n small within = omega (arith, small.memories)

wire_small : (sizes : Sizes) (wire : Wire) → IsSmall sizes → IsWireIn sizes wire → wire.link.number < 64
wire_small sizes wire small within = few_ends sizes wire.link.kind wire.link.number small within

constant : (word : List ℕ) → 0 < length word → each_prints word ≡ true → IsWord word
constant word some prints = record { some = some; prints = prints }

fate_word : (fate : Fate) → IsWord (word_of fate)
fate_word Deliver = constant (codes "deliver") (omega arith) refl
fate_word Lose = constant (codes "lose") (omega arith) refl
fate_word Repeat = constant (codes "repeat") (omega arith) refl

pub line_words : (sizes : Sizes) (line : Line) → IsSmall sizes → IsLineIn sizes line → AllByRecursion IsWord (words_in line)
line_words sizes (Step hart) small fits = (constant (codes "step") (omega arith) refl, (number_word hart (omega (arith, small.threads, fits)), tt))
line_words sizes (Drain hart) small fits = (constant (codes "drain") (omega arith) refl, (number_word hart (omega (arith, small.threads, fits)), tt))
line_words sizes (Frame fate wire k) small fits = (fate_word fate, (name_word wire (wire_small sizes wire small fits.0), (number_word k (omega (arith, fits.1)), tt)))
line_words sizes Epoch small fits = (constant (codes "epoch") (omega arith) refl, tt)
line_words sizes Settle small fits = (constant (codes "settle") (omega arith) refl, tt)

-- a line that begins with a known word and has its number of words says what its arguments do
begins : (sizes : Sizes) (keyword : Keyword) (word : List ℕ) (arguments : List (List ℕ)) (text : List ℕ) → is_text text ≡ true → words_of text ≡ word ∷ arguments
    → (eqb (length word) 0 || eqb (get_or word 0 0) 35) ≡ false → keyword_of word ≡ Ok keyword → eqb (length (word ∷ arguments)) (words_wanted keyword) ≡ true
    → entry_of sizes text ≡ said sizes keyword text
unfolding entry_of worded
begins sizes keyword word arguments text is words some known count = rw (is, words, some, known, count) refl

reads_frame : (sizes : Sizes) (fate : Fate) (wire : Wire) (k : ℕ) (text : List ℕ) → IsSmall sizes → IsWireIn sizes wire × (k < 4) → words_of text ≡ words_in (Frame fate wire k)
    → frame_event sizes fate text ≡ Ok (befalls fate wire.link wire.side k)
unfolding frame_event
reads_frame sizes fate wire k text small fits words =
    rw (words, reads_wire sizes wire fits.0 (wire_small sizes wire small fits.0), reads_up_to k (omega (arith, fits.1))) refl

begins_frame : (sizes : Sizes) (fate : Fate) (wire : Wire) (k : ℕ) (text : List ℕ) → is_text text ≡ true → words_of text ≡ words_in (Frame fate wire k)
    → entry_of sizes text ≡ said sizes (keywords.Frame fate) text
unfolding keyword_of
begins_frame sizes Deliver wire k text is words = begins sizes (keywords.Frame Deliver) (codes "deliver") (wire_name wire ∷ decimal k ∷ []) text is words refl refl refl
begins_frame sizes Lose wire k text is words = begins sizes (keywords.Frame Lose) (codes "lose") (wire_name wire ∷ decimal k ∷ []) text is words refl refl refl
begins_frame sizes Repeat wire k text is words = begins sizes (keywords.Frame Repeat) (codes "repeat") (wire_name wire ∷ decimal k ∷ []) text is words refl refl refl

-- what a line of these words says
says : (sizes : Sizes) (line : Line) (text : List ℕ) → IsSmall sizes → IsLineIn sizes line → is_text text ≡ true → words_of text ≡ words_in line
    → entry_of sizes text ≡ Ok (One (event_of line))
unfolding keyword_of said
says sizes (Step hart) text small fits is words =
    begins sizes keywords.Step (codes "step") (decimal hart ∷ []) text is words refl refl refl ∙ rw (words, reads_below sizes.threads hart fits (omega (arith, small.threads, fits))) refl
says sizes (Drain hart) text small fits is words =
    begins sizes keywords.Drain (codes "drain") (decimal hart ∷ []) text is words refl refl refl ∙ rw (words, reads_below sizes.threads hart fits (omega (arith, small.threads, fits))) refl
says sizes (Frame fate wire k) text small fits is words = begins_frame sizes fate wire k text is words ∙ rw (reads_frame sizes fate wire k text small fits words) refl
says sizes Epoch text small fits is words = begins sizes keywords.Epoch (codes "epoch") [] text is words refl refl refl
says sizes Settle text small fits is words = begins sizes keywords.Settle (codes "settle") [] text is words refl refl refl

-- the text of a line, without its end
abbrev pub body : Line → List ℕ
body line = spaced (words_in line)

reads_line : (sizes : Sizes) (line : Line) → IsSmall sizes → IsLineIn sizes line → entry_of sizes (body line) ≡ Ok (One (event_of line))
reads_line sizes line small fits =
    let words = line_words sizes line small fits in
    says sizes line (body line) small fits (text_spaced (words_in line) words) (words_spaced (words_in line) words)

-- ---- schedules

lines_text : (sizes : Sizes) (all : List Line) → IsSmall sizes → AllByRecursion (IsLineIn sizes) all → lines (flat_map line_text all) ≡ map body all
lines_text sizes [] small fit = refl
lines_text sizes (line ∷ all) small fit =
    let rest = flat_map line_text all in
    ap lines (append_assoc (body line) (10 ∷ []) rest)
    ∙ first_line (body line) rest (text_spaced (words_in line) (line_words sizes line small fit.0))
    ∙ ap (λ texts. body line ∷ texts) (lines_text sizes all small fit.1)

reads_from : (sizes : Sizes) (all : List Line) (number : ℕ) (before : List Event) → IsSmall sizes → AllByRecursion (IsLineIn sizes) all → length before + length all ≤ 1000000
    → read_from sizes number before (map body all) ≡ Ok (before ++ map event_of all)
unfolding lines_read after_line with_line
reads_from sizes [] number before small fit most = ap (λ events. Ok events) (sym (append-nil before))
reads_from sizes (line ∷ all) number before small fit most =
    rw (reads_line sizes line small fit.0, le-leb (length before + 1) 1000000 (omega (arith, most)))
    (reads_from sizes all (number + 1) (before ++ event_of line ∷ []) small fit.1 (omega (arith, most, length-append before (event_of line ∷ [])))
    ∙ ap (λ events. Ok events) (append_assoc before (event_of line ∷ []) (map event_of all)))

pub reads_all : (sizes : Sizes) (all : List Line) → IsSmall sizes → AllByRecursion (IsLineIn sizes) all → length all ≤ 1000000
    → read_from sizes 1 [] (lines (flat_map line_text all)) ≡ Ok (map event_of all)
reads_all sizes all small fit most = ap (read_from sizes 1 []) (lines_text sizes all small fit) ∙ reads_from sizes all 1 [] small fit (omega (arith, most))

-- a line has at most 16 bytes
name_short : (wire : Wire) → wire.link.number < 64 → length (wire_name wire) ≤ 4
name_short wire small =
    let front : List ℕ = letter_of wire.link.kind ++ decimal wire.link.number in
    omega (
      arith,
      length-append front (side_mark wire.side),
      length-append (letter_of wire.link.kind) (decimal wire.link.number),
      one_letter wire.link.kind,
      (numeral wire.link.number small).few,
      mark_short wire.side,
    )

two_words : (word number : List ℕ) → length word ≤ 7 → length number ≤ 2 → length (spaced (word ∷ number ∷ []) ++ codes "\n") ≤ 16
two_words word number w n = omega (arith, length-append (spaced (word ∷ number ∷ [])) (codes "\n"), length-append word (32 ∷ number))

three_words : (word name number : List ℕ) → length word ≤ 7 → length name ≤ 4 → length number ≤ 2 → length (spaced (word ∷ name ∷ number ∷ []) ++ codes "\n") ≤ 16
three_words word name number w m n =
    omega (arith, length-append (spaced (word ∷ name ∷ number ∷ [])) (codes "\n"), length-append word (32 ∷ (name ++ 32 ∷ number)), length-append name (32 ∷ number))

fate_short : (fate : Fate) → length (word_of fate) ≤ 7
fate_short Deliver = omega arith
fate_short Lose = omega arith
fate_short Repeat = omega arith

line_short : (sizes : Sizes) (line : Line) → IsSmall sizes → IsLineIn sizes line → length (line_text line) ≤ 16
line_short sizes (Step hart) small fits = two_words (codes "step") (decimal hart) (omega arith) (numeral hart (omega (arith, small.threads, fits))).few
line_short sizes (Drain hart) small fits = two_words (codes "drain") (decimal hart) (omega arith) (numeral hart (omega (arith, small.threads, fits))).few
line_short sizes (Frame fate wire k) small fits =
    three_words (word_of fate) (wire_name wire) (decimal k) (fate_short fate) (name_short wire (wire_small sizes wire small fits.0)) (numeral k (omega (arith, fits.1))).few
line_short sizes Epoch small fits = omega arith
line_short sizes Settle small fits = omega arith

pub text_short : (sizes : Sizes) (all : List Line) → IsSmall sizes → AllByRecursion (IsLineIn sizes) all → length (flat_map line_text all) ≤ 16 * length all
text_short sizes [] small fit = omega arith
text_short sizes (line ∷ all) small fit =
    omega (arith, length-append (line_text line) (flat_map line_text all), line_short sizes line small fit.0, text_short sizes all small fit.1)
