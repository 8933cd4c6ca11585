-- Values stated in comments: line by line, and read back from the text that states them.
use Rattle.std.proofs.Common.{◌≡◌, ℕ, ◌-◌, ◌^◌, ◌<◌, ◌==◌, true, false, nat_lt, List, [], ◌∷◌, ◌++◌, length, append_assoc, codes, decimal, slice_get, Option, Some, None, refl, sym, ap, ◌∙◌, arith}
use Rattle.std.specs.List.{AllPass, cons_option, filter_map, list_all, slice_split}
use Rattle.std.specs.Option.{option_or, unwrap_or}
use Rattle.std.specs.Str.Lines.{lines, lines_of_parts, strip_carriage_return}
use Rattle.std.specs.Str.Parse.{AllDigits}
use Rattle.std.proofs.lemmas.Bool.{and_from}
use Rattle.std.proofs.lemmas.Bool.Decides.{nat_tests}
use Rattle.std.proofs.lemmas.Fmt.{decimal_is_IsNumeral}
use Rattle.std.proofs.lemmas.List.Elements.{All-weaker}
use Rattle.std.proofs.lemmas.List.Folds.{list_all-append}
use Rattle.std.proofs.lemmas.List.Splits.{length-slice_split, slice_split_at}
use Rattle.std.proofs.lemmas.List.Sums.{AllPass-from_list_all}
use Rattle.std.proofs.lemmas.Str.Parse.{digit_from_value}
use Rattle.icu_trie.specs.Parts.{Parts, last_cell}
use Rattle.ucd_files.proofs.CallerLemmas.{short_decimal-decimal}
use Rattle.ucptrie_forms.specs.Stated.{StatesValues, mark_of, number_after, stated, stated_by, stating_line, stating_lines}

-- ---- One line more

first_of_cons : (o : Option ℕ) (xs : List ℕ) → option_or o (slice_get xs 0) ≡ slice_get (cons_option o xs) 0
first_of_cons None xs = refl
first_of_cons (Some n) xs = refl

-- the value so far, then the line's, then that of the lines after it
stated-more : (name : List ℕ) (so_far : Option ℕ) (file line after : List ℕ) → lines file ≡ line ∷ lines after
    → option_or (option_or so_far (stated_by name line)) (stated name after) ≡ option_or so_far (stated name file)
stated-more name (Some n) file line after is = refl
stated-more name None file line after is = rw is (first_of_cons (stated_by name line) (filter_map (stated_by name) (lines after)))

-- the same, as the loop over lines has its values
pub stated-next : (name mark : List ℕ) (so_far found next : Option ℕ) (file line after whole : List ℕ) → lines file ≡ line ∷ lines after
    → mark ≡ mark_of name → found ≡ number_after mark line → next ≡ option_or so_far found
    → option_or so_far (stated name file) ≡ stated name whole → option_or next (stated name after) ≡ stated name whole
stated-next name mark so_far found next file line after whole is mark_is found_is next_is held =
    rw (next_is, found_is, mark_is) (stated-more name so_far file line after is ∙ held)

-- no line is left
pub stated-all : (name : List ℕ) (so_far : Option ℕ) (file : List ℕ) → lines file ≡ [] → option_or so_far (stated name file) ≡ so_far
stated-all name (Some n) file none = refl
stated-all name None file none = rw none refl

-- ---- Digits

digits_above : (ds : List ℕ) → AllDigits 10 ds → list_all (λ b. nat_lt 13 b) ds ≡ true
digits_above [] d = refl
digits_above (c ∷ ds) d = and_from _ _ (grind (arith, nat_tests, digit_from_value c d.0)) (digits_above ds d.1)

-- ---- Lines

first_line : (line : List ℕ) (parts : List (List ℕ)) → 0 < length parts
    → lines_of_parts (line ∷ parts) ≡ strip_carriage_return line ∷ lines_of_parts parts
first_line line [] some = absurd (omega arith)
first_line line (part ∷ parts) some = refl

-- a line of bytes above CR and LF
line_read : (line rest : List ℕ) → list_all (λ b. nat_lt 13 b) line ≡ true → 0 < length line
    → lines (line ++ 10 ∷ rest) ≡ line ∷ lines rest
line_read line rest above some =
    let each : AllPass (λ b. nat_lt 13 b) line = AllPass-from_list_all (λ b. nat_lt 13 b) line above in
    let no_feed = All-weaker (λ b. nat_lt 13 b ≡ true) (λ b. (b == 10) ≡ false) (λ b more. grind (arith, nat_tests, more)) line each in
    let cut = slice_split_at (λ b. b == 10) line 10 rest no_feed refl in
    let more : 0 < length (slice_split (λ b. b == 10) rest) = omega (arith, length-slice_split (λ b. b == 10) rest) in
    let last = each (length line - 1) 0 (omega (arith, some)) in
    let kept : strip_carriage_return line ≡ line = grind (arith, nat_tests, last) in
    ap lines_of_parts cut ∙ (first_line line _ more ∙ ap (λ x. x ∷ lines rest) kept)

-- what a comment that states a number starts with, its digits, and its LF
comment_parts : (name ds rest : List ℕ)
    → (35 ∷ ((32 ∷ (name ++ (58 ∷ (32 ∷ ds)))) ++ (10 ∷ []))) ++ rest ≡ (mark_of name ++ ds) ++ 10 ∷ rest
comment_parts name ds rest = ap (λ x. 35 ∷ (32 ∷ x)) (append_assoc (name ++ (58 ∷ (32 ∷ ds))) (10 ∷ []) rest
    ∙ ap (λ x. x ++ 10 ∷ rest) (sym (append_assoc name (58 ∷ (32 ∷ [])) ds)))

-- the line of a comment that states a number, and the lines after it
comment_read : (name : List ℕ) (n : ℕ) (rest : List ℕ) → list_all (λ b. nat_lt 13 b) (mark_of name) ≡ true → n < 2 ^ 32
    → lines (stating_line name n ++ rest) ≡ (mark_of name ++ decimal n) ∷ lines rest
comment_read name n rest above small =
    let digits = digits_above (decimal n) (decimal_is_IsNumeral n (omega (arith, small))).0.1 in
    let all = list_all-append (λ b. nat_lt 13 b) (mark_of name) (decimal n) ∙ and_from _ _ above digits in
    ap lines (comment_parts name (decimal n) rest) ∙ line_read (mark_of name ++ decimal n) rest all (omega arith)

-- ---- Both comments

-- a text that starts with the two comments states both values
pub StatesValues-comments : (t : Parts ℕ) (e : ℕ) (rest : List ℕ) → t.header.null_value < 2 ^ 32 → e < 2 ^ 32
    → last_cell t.values ≡ Some e → StatesValues t (stating_lines t ++ rest)
unfolding number_after
StatesValues-comments t e rest small small_error is =
    let null_name : List ℕ = codes "null value" in
    let error_name : List ℕ = codes "error value" in
    let n = t.header.null_value in
    let error_line = stating_line error_name (unwrap_or (last_cell t.values) 0) in
    let same : error_line ≡ stating_line error_name e = rw is refl in
    let null_read = mark_of null_name ++ decimal n in
    let error_read = mark_of error_name ++ decimal e in
    let all : lines (stating_lines t ++ rest) ≡ null_read ∷ (error_read ∷ lines rest) =
    ap lines (append_assoc (stating_line null_name n) error_line rest)
    ∙ (comment_read null_name n (error_line ++ rest) refl small
    ∙ ap (λ ls. null_read ∷ ls) (ap (λ line. lines (line ++ rest)) same ∙ comment_read error_name e rest refl small_error)) in
    let own : stated_by null_name null_read ≡ Some n = short_decimal-decimal n small in
    let other : stated_by error_name null_read ≡ None = refl in
    let own_error : stated_by error_name error_read ≡ Some e = short_decimal-decimal e small_error in
    record {
      null = ap (λ ls. slice_get (filter_map (stated_by null_name) ls) 0) all
          ∙ ap (λ o. slice_get (cons_option o (filter_map (stated_by null_name) (error_read ∷ lines rest))) 0) own;
      error = ap (λ ls. slice_get (filter_map (stated_by error_name) ls) 0) all
          ∙ (ap (λ o. slice_get (cons_option o (filter_map (stated_by error_name) (error_read ∷ lines rest))) 0) other
          ∙ (ap (λ o. slice_get (cons_option o (filter_map (stated_by error_name) (lines rest))) 0) own_error ∙ sym is));
    }
