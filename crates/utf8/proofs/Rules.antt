-- The scan against the syntax of RFC 3629. Assumes nothing.
use Rattle.std.proofs.Common.{◌≡◌, ℕ, zero, suc, ◌+◌, ◌-◌, ◌<◌, ◌≤◌, true, cond, eqb, ltb, List, [], ◌∷◌, ◌++◌, length, get_or, take, drop, Some, Ok, Err, Result, sym, refl, ap, ◌∙◌, subst, ⊎_elim, arith, lit<, length-append, take-append-drop}
use mathlib.Core.List.{Memᴰ}
use native.Mathlib.Nat.{sub-zero}
use Rattle.std.proofs.lemmas.Bool.{cases_lt, cases_eq, and_from, eq-eqb, ne_eqb, lt-ltb, le-ltb, false≢true, cond-true, cond-false}
use Rattle.std.proofs.lemmas.List.{drop_at, length-drop, length-take-le, take-take, drop-take, nil_from_length}
use Rattle.text.specs.declared.Refusal.{Refusal}
use Rattle.text.specs.declared.Refusal.TheVariants.{TextTooLong, Malformed, TagTooLong}
use Rattle.text.specs.Answers.{kept}
use Rattle.text.specs.Cells.{Cell, total}
use Rattle.text.proofs.Cuts.{boundary-total, total-before}
use Rattle.utf8.specs.declared.rows.Row.{Row}
use Rattle.utf8.specs.Octets.{rows, inside, follow, glue, led, char, scan, WellFormed}
use Rattle.utf8.specs.Scans.{none≢some, Read, read, follow_parts, char_fits, scan_some, solid-scan}
use Rattle.utf8.specs.Rfc.{In, Tail, Char, ascii, two, three_e0, three_e1, three_ed, three_ee, four_f0, four_f1, four_f4, Octets, none, more, codes, Utf8, Longest, TextAnswer, TagAnswer}
use Rattle.utf8.specs.Answers.{well_check, utf8_text_check, utf8_tag_check}
use Rattle.utf8.proofs.Table.{inside_yes, inside_bounds, row_listed, listed_row}
use Rattle.utf8.proofs.Starts.{scan_parts, char_local, before-scan}

-- from the syntax to the scan: the bytes of an alternative, whatever follows them, are its code point
within : (lo hi b : ℕ) → In lo hi b → inside lo hi b ≡ true
within lo hi b h = inside_yes lo hi b h.0 h.1

listed : (rs : List Row) (k : ℕ) (d : Row) → k < length rs → Memᴰ (get_or rs k d) rs
listed [] k d h = absurd (omega arith)
listed (r ∷ rs) zero d h = Memᴰ.head refl
listed (r ∷ rs) (suc k) d h = Memᴰ.tail (listed rs k d (omega arith))

abbrev row_at : ℕ → Row
row_at k = get_or rows k (record { lead = record { low = 0; high = 0 }; tails = 0; second = record { low = 0; high = 0 }; base = 0 })

by_row : (k : ℕ) → k < length rows → (a : ℕ) → In (row_at k).lead.low (row_at k).lead.high a → (bs : List ℕ) → follow (row_at k).tails (row_at k).second.low (row_at k).second.high bs ≡ true → char (a ∷ bs) ≡ Some (glue (row_at k).tails (a - (row_at k).base) bs, suc (row_at k).tails)
by_row k h a lead bs f = ap (λ o. led o a bs) (row_listed a (row_at k) (listed rows k _ h) lead.0 lead.1) ∙ cond-true _ _ _ f

-- the bytes after the lead byte
tail_1 : (lo hi b : ℕ) (bs : List ℕ) → In lo hi b → follow 1 lo hi (b ∷ bs) ≡ true
tail_1 lo hi b bs p = and_from _ _ (within lo hi b p) refl

tail_2 : (lo hi b c : ℕ) (bs : List ℕ) → In lo hi b → Tail c → follow 2 lo hi (b ∷ c ∷ bs) ≡ true
tail_2 lo hi b c bs p q = and_from _ _ (within lo hi b p) (tail_1 0x80 0xBF c bs q)

tail_3 : (lo hi b c d : ℕ) (bs : List ℕ) → In lo hi b → Tail c → Tail d → follow 3 lo hi (b ∷ c ∷ d ∷ bs) ≡ true
tail_3 lo hi b c d bs p q s = and_from _ _ (within lo hi b p) (tail_2 0x80 0xBF c d bs q s)

made : (os : List ℕ) (code : ℕ) → Char os code → (bs : List ℕ) → char (os ++ bs) ≡ Some (code, length os)
unfolding rows
made os code (ascii {a = a} h) bs = by_row 0 (lit< tt) a h bs refl ∙ ap (λ n. Some (n, 1)) (sub-zero a)
made os code (two {a = a} {b = b} h p) bs = by_row 1 (lit< tt) a h (b ∷ bs) (tail_1 _ _ b bs p)
made os code (three_e0 {a = a} {b = b} {c = c} h p q) bs = by_row 2 (lit< tt) a h (b ∷ c ∷ bs) (tail_2 _ _ b c bs p q)
made os code (three_e1 {a = a} {b = b} {c = c} h p q) bs = by_row 3 (lit< tt) a h (b ∷ c ∷ bs) (tail_2 _ _ b c bs p q)
made os code (three_ed {a = a} {b = b} {c = c} h p q) bs = by_row 4 (lit< tt) a h (b ∷ c ∷ bs) (tail_2 _ _ b c bs p q)
made os code (three_ee {a = a} {b = b} {c = c} h p q) bs = by_row 5 (lit< tt) a h (b ∷ c ∷ bs) (tail_2 _ _ b c bs p q)
made os code (four_f0 {a = a} {b = b} {c = c} {d = d} h p q s) bs = by_row 6 (lit< tt) a h (b ∷ c ∷ d ∷ bs) (tail_3 _ _ b c d bs p q s)
made os code (four_f1 {a = a} {b = b} {c = c} {d = d} h p q s) bs = by_row 7 (lit< tt) a h (b ∷ c ∷ d ∷ bs) (tail_3 _ _ b c d bs p q s)
made os code (four_f4 {a = a} {b = b} {c = c} {d = d} h p q s) bs = by_row 8 (lit< tt) a h (b ∷ c ∷ d ∷ bs) (tail_3 _ _ b c d bs p q s)

pub octets_well : (bs ns : List ℕ) → Octets bs ns → WellFormed bs
octets_well bs ns none = refl
octets_well bs ns (more {os = os} {rest = rest} {codes = codes} {code = code} p o) =
    let r = octets_well rest codes o in
    let on : drop (length os) (os ++ rest) ≡ rest = drop_at os rest (length os) refl in
    let e = ap total (scan_some (os ++ rest) (code, length os) (made os code p rest)) ∙ ap (λ l. length os + total (scan l)) on in
    let l = length-append os rest in
    omega arith

-- from the scan to the syntax: what each row asks for is an alternative
abbrev All : (Row → Type 0) → List Row → Type 0
All P [] = Unit {0}
All P (r ∷ rs) = P r × All P rs

all_at : (P : Row → Type 0) (rs : List Row) (r : Row) → All P rs → Memᴰ r rs → P r
all_at P [] r h m = elim m [ ]
all_at P (x ∷ rs) r h (Memᴰ.head e) = subst P (sym e) h.0
all_at P (x ∷ rs) r h (Memᴰ.tail m) = all_at P rs r h.1 m

abbrev Alternative : Row → Type 0
Alternative r = (a : ℕ) (bs : List ℕ) → In r.lead.low r.lead.high a → follow r.tails r.second.low r.second.high bs ≡ true → Char (a ∷ take r.tails bs) (glue r.tails (a - r.base) bs)

-- one, two and three bytes after the lead byte
module _ (lo hi : ℕ) (P : List ℕ → Type 0) where
  one_tail : ((b : ℕ) (bs : List ℕ) → In lo hi b → P (b ∷ bs)) → (bs : List ℕ) → follow 1 lo hi bs ≡ true → P bs
  one_tail k [] f = absurd (false≢true f)
  one_tail k (b ∷ bs) f = k b bs (inside_bounds lo hi b (follow_parts 0 lo hi b bs f).0)

  two_tails : ((b c : ℕ) (bs : List ℕ) → In lo hi b → Tail c → P (b ∷ c ∷ bs)) → (bs : List ℕ) → follow 2 lo hi bs ≡ true → P bs
  two_tails k [] f = absurd (false≢true f)
  two_tails k (b ∷ []) f = absurd (false≢true (follow_parts 1 lo hi b [] f).1)
  two_tails k (b ∷ c ∷ bs) f =
      let p = follow_parts 1 lo hi b (c ∷ bs) f in
      let q = follow_parts 0 0x80 0xBF c bs p.1 in
      k b c bs (inside_bounds lo hi b p.0) (inside_bounds 0x80 0xBF c q.0)

  three_tails : ((b c d : ℕ) (bs : List ℕ) → In lo hi b → Tail c → Tail d → P (b ∷ c ∷ d ∷ bs)) → (bs : List ℕ) → follow 3 lo hi bs ≡ true → P bs
  three_tails k [] f = absurd (false≢true f)
  three_tails k (b ∷ []) f = absurd (false≢true (follow_parts 2 lo hi b [] f).1)
  three_tails k (b ∷ c ∷ []) f = absurd (false≢true (follow_parts 1 0x80 0xBF c [] (follow_parts 2 lo hi b (c ∷ []) f).1).1)
  three_tails k (b ∷ c ∷ d ∷ bs) f =
      let p = follow_parts 2 lo hi b (c ∷ d ∷ bs) f in
      let q = follow_parts 1 0x80 0xBF c (d ∷ bs) p.1 in
      let s = follow_parts 0 0x80 0xBF d bs q.1 in
      k b c d bs (inside_bounds lo hi b p.0) (inside_bounds 0x80 0xBF c q.0) (inside_bounds 0x80 0xBF d s.0)

-- what an alternative is, over the bytes after its lead byte
abbrev Made : ℕ → ℕ → ℕ → List ℕ → Type 0
Made n base a bs = Char (a ∷ take n bs) (glue n (a - base) bs)

alternatives : All Alternative rows
unfolding rows
alternatives =
    let e0 : Alternative (row_at 2) = λ a bs h f. two_tails 0xA0 0xBF (Made 2 0xE0 a) (λ b c ts p q. three_e0 h p q) bs f in
    let e1 : Alternative (row_at 3) = λ a bs h f. two_tails 0x80 0xBF (Made 2 0xE0 a) (λ b c ts p q. three_e1 h p q) bs f in
    let ed : Alternative (row_at 4) = λ a bs h f. two_tails 0x80 0x9F (Made 2 0xE0 a) (λ b c ts p q. three_ed h p q) bs f in
    let ee : Alternative (row_at 5) = λ a bs h f. two_tails 0x80 0xBF (Made 2 0xE0 a) (λ b c ts p q. three_ee h p q) bs f in
    let f0 : Alternative (row_at 6) = λ a bs h f. three_tails 0x90 0xBF (Made 3 0xF0 a) (λ b c d ts p q s. four_f0 h p q s) bs f in
    let f1 : Alternative (row_at 7) = λ a bs h f. three_tails 0x80 0xBF (Made 3 0xF0 a) (λ b c d ts p q s. four_f1 h p q s) bs f in
    let f4 : Alternative (row_at 8) = λ a bs h f. three_tails 0x80 0x8F (Made 3 0xF0 a) (λ b c d ts p q s. four_f4 h p q s) bs f in
    let c2 : Alternative (row_at 1) = λ a bs h f. one_tail 0x80 0xBF (Made 1 0xC0 a) (λ b ts p. two h p) bs f in
    let low : Alternative (row_at 0) = λ a bs h f. subst (Char (a ∷ [])) (sym (sub-zero a)) (ascii h) in
    (low, (c2, (e0, (e1, (ed, (ee, (f0, (f1, (f4, tt)))))))))

-- the code point that was read is one of the syntax
read_char : (b : ℕ) (bs : List ℕ) (c : Cell) (r : Read b bs c) → Char (b ∷ take r.row.tails bs) c.0
read_char b bs c r =
    let m = listed_row b r.row rows r.is in
    subst (Char (b ∷ take r.row.tails bs)) (sym r.code) (all_at Alternative rows r.row alternatives m.0 b bs (inside_bounds r.row.lead.low r.row.lead.high b m.1) r.follows)

complete : (cs : List Cell) (bs : List ℕ) → scan bs ≡ cs → total cs ≡ length bs → Octets bs (codes cs)
complete [] bs e t = subst (λ l. Octets l []) (sym (nil_from_length bs (sym t))) none
complete (c ∷ cs) [] e t = absurd (none≢some c (scan_parts [] c cs e).0)
complete (c ∷ cs) (b ∷ bs) e t =
    let p = scan_parts (b ∷ bs) c cs e in
    let f = char_fits (b ∷ bs) c p.0 in
    let r = read b bs c p.0 in
    let l = length-drop c.1 (b ∷ bs) in
    let on : drop c.1 (b ∷ bs) ≡ drop r.row.tails bs = ap (λ n. drop n (b ∷ bs)) r.width in
    let m = ap length on in
    let rest : Octets (drop r.row.tails bs) (codes cs) = complete cs (drop r.row.tails bs) (ap scan (sym on) ∙ p.1) (omega arith) in
    subst (λ l. Octets (b ∷ l) (c.0 ∷ codes cs)) (take-append-drop r.row.tails bs) (more (read_char b bs c r) rest)

pub well_octets : (bs : List ℕ) → WellFormed bs → Octets bs (codes (scan bs))
well_octets bs w = complete (scan bs) bs refl w

pub well_utf8 : (bs : List ℕ) → WellFormed bs → Utf8 bs
well_utf8 bs w = (codes (scan bs), well_octets bs w)

pub utf8_well : (bs : List ℕ) → Utf8 bs → WellFormed bs
utf8_well bs u = octets_well bs u.0 u.1

-- the longest prefix
scan_le : (cs : List Cell) (bs : List ℕ) → scan bs ≡ cs → total cs ≤ length bs
scan_le [] bs e = omega arith
scan_le (c ∷ cs) bs e =
    let p = scan_parts bs c cs e in
    let f = char_fits bs c p.0 in
    let l = length-drop c.1 bs in
    let r = scan_le cs (drop c.1 bs) p.1 in omega arith

prefix_le : (cs : List Cell) (bs : List ℕ) (n : ℕ) → n ≤ length bs → scan (take n bs) ≡ cs → total cs ≤ total (scan bs)
prefix_le [] bs n h e = omega arith
prefix_le (c ∷ cs) bs n h e =
    let p = scan_parts (take n bs) c cs e in
    let f = char_fits (take n bs) c p.0 in
    let l = length-take-le n bs h in
    let k : c.1 ≤ n = omega arith in
    let here : char bs ≡ Some c = char_local (take n bs) bs c p.0 (take-take c.1 n bs k) in
    let sum : n ≡ c.1 + (n - c.1) = omega arith in
    let on : drop c.1 (take n bs) ≡ take (n - c.1) (drop c.1 bs) = ap (λ m. drop c.1 (take m bs)) sum ∙ drop-take c.1 (n - c.1) bs in
    let d = length-drop c.1 bs in
    let r = prefix_le cs (drop c.1 bs) (n - c.1) (omega arith) (ap scan (sym on) ∙ p.1) in
    let t = ap total (scan_some bs c here) in omega arith

pub longest : (bs : List ℕ) → Longest bs (total (scan bs))
longest bs =
    let n = total (scan bs) in
    let le = scan_le (scan bs) bs refl in
    let b = boundary-total (scan bs) (solid-scan bs) in
    let well : WellFormed (take n bs) = ap total (sym (before-scan (scan bs) bs n refl b)) ∙ total-before (scan bs) n b ∙ sym (length-take-le n bs le) in (
      le,
      well_utf8 (take n bs) well,
      λ m h u. let l = length-take-le m bs h in let r = prefix_le (scan (take m bs)) bs m h refl in omega (arith, utf8_well (take m bs) u),
    )

-- so the checks answer as the syntax says
module _ (Answer : Result (Unit {0}) Refusal → Type 0) (bs : List ℕ) where
  by_form : (Utf8 bs → Answer (Ok tt)) → ((Utf8 bs → ⊥) → Longest bs (total (scan bs)) → Answer (Err (Malformed (total (scan bs))))) → Answer (well_check bs)
  by_form good bad =
      ⊎_elim
      (λ w. subst Answer (sym (cond-true (eqb (total (scan bs)) (length bs)) _ _ (eq-eqb _ _ w))) (good (well_utf8 bs w)))
      (λ w. subst Answer (sym (cond-false (eqb (total (scan bs)) (length bs)) _ _ (ne_eqb _ _ w))) (bad (λ u. w (utf8_well bs u)) (longest bs)))
      (cases_eq (total (scan bs)) (length bs))

  by_limit : (limit : ℕ) (long : Refusal) → (limit < length bs → Answer (Err long)) → (length bs ≤ limit → Answer (well_check bs)) → Answer (cond (ltb limit (length bs)) (Err long) (well_check bs))
  by_limit limit long over under =
      ⊎_elim
      (λ h. subst Answer (sym (cond-true (ltb limit (length bs)) _ _ (lt-ltb limit (length bs) h))) (over h))
      (λ h. subst Answer (sym (cond-false (ltb limit (length bs)) _ _ (le-ltb limit (length bs) h))) (under h))
      (cases_lt limit (length bs))

pub text_exact : (bs : List ℕ) → TextAnswer bs (utf8_text_check bs)
text_exact bs = by_limit (TextAnswer bs) bs 1048576 (TextTooLong (length bs)) (λ h. (h, refl)) (λ h. by_form (TextAnswer bs) bs (λ u. (h, u)) (λ n l. (h, n, l)))

pub tag_exact : (bs : List ℕ) → TagAnswer bs (utf8_tag_check bs)
tag_exact bs = by_limit (TagAnswer bs) bs 32 (TagTooLong (length bs)) (λ h. (h, refl)) (λ h. by_form (TagAnswer bs) bs (λ u. (h, u)) (λ n l. (h, n, l)))

-- what is made of bytes is well-formed, and its items are its code points
pub kept_octets : (bs : List ℕ) → Octets (kept (utf8_text_check bs) bs) (codes (scan (kept (utf8_text_check bs) bs)))
kept_octets bs = go (utf8_text_check bs) (text_exact bs)
  where
    go : (r : Result (Unit {0}) Refusal) → TextAnswer bs r → Octets (kept r bs) (codes (scan (kept r bs)))
    go (Ok u) h = well_octets bs (utf8_well bs h.1)
    go (Err e) h = none
