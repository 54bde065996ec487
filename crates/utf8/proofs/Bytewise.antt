-- Code points against code points, by their bytes. Assumes nothing.
use Rattle.std.proofs.Common.{◌≡◌, ℕ, zero, suc, ◌+◌, ◌-◌, ◌*◌, ◌<◌, ◌≤◌, Bool, true, false, cond, ◌&&◌, eqb, List, [], ◌∷◌, length, get_or, take, drop, Some, sym, refl, ap, ◌∙◌, subst, ⊎_elim, zero-add, arith}
use Rattle.std.proofs.lemmas.Bool.{cases_lt, cases_eq, cases_Bool, eq-eqb, ne_eqb, false≢true, both_ways, cond-false}
use Rattle.std.proofs.lemmas.List.{length-drop, nil_from_length, drop_more}
use Rattle.text.specs.declared.CompareResult.TheVariants as compared
use Rattle.text.specs.Cells.{Cell, total, singles}
use Rattle.text.specs.Search.{same, matched, until, is}
use Rattle.text.proofs.Places.{same_self, same_from}
use Rattle.utf8.specs.Octets.{rows, row_of, follow, glue, char, scan, WellFormed}
use Rattle.utf8.specs.Scans.{none≢some, read, follow_parts, follow_fits, char_fits}
use Rattle.utf8.proofs.Table.{row_sound, inside_bounds, base_of, least}
use Rattle.utf8.proofs.Steps.{char_ascii}
use Rattle.utf8.proofs.Decode.{some_tails}
use Rattle.utf8.proofs.Starts.{scan_parts, same_head, char_local, follow_range}

-- equal codes have equal bytes
glue_alike : (n lo hi lo' hi' code code' : ℕ) (xs ys : List ℕ) → 0x80 ≤ lo → hi ≤ 0xBF → 0x80 ≤ lo' → hi' ≤ 0xBF → follow n lo hi xs ≡ true → follow n lo' hi' ys ≡ true → glue n code xs ≡ glue n code' ys → (code ≡ code') × (take n xs ≡ take n ys)
glue_alike zero lo hi lo' hi' code code' xs ys a b c d e f g = (g, refl)
glue_alike (suc n) lo hi lo' hi' code code' [] ys a b c d e f g = absurd (false≢true e)
glue_alike (suc n) lo hi lo' hi' code code' (p ∷ xs) [] a b c d e f g = absurd (false≢true f)
glue_alike (suc n) lo hi lo' hi' code code' (p ∷ xs) (q ∷ ys) a b c d e f g =
    let s = follow_parts n lo hi p xs e in
    let t = follow_parts n lo' hi' q ys f in
    let i = inside_bounds lo hi p s.0 in
    let j = inside_bounds lo' hi' q t.0 in
    let r = glue_alike n 0x80 0xBF 0x80 0xBF (code * 64 + (p - 0x80)) (code' * 64 + (q - 0x80)) xs ys (omega arith) (omega arith) (omega arith) (omega arith) s.1 t.1 g in
    let sum : code * 64 + (p - 0x80) ≡ code' * 64 + (q - 0x80) = r.0 in
    let h : p ≡ q = omega arith in
    let k = r.1 in
    (omega arith, cc)

char_alike : (xs ys : List ℕ) (c : Cell) → char xs ≡ Some c → char ys ≡ Some c → take c.1 xs ≡ take c.1 ys
char_alike [] ys c e f = absurd (none≢some c e)
char_alike (x ∷ xs) [] c e f = absurd (none≢some c f)
char_alike (x ∷ xs) (y ∷ ys) c e f =
    let r = read x xs c e in
    let t = read y ys c f in
    let rs = row_sound x r.row r.is in
    let ts = row_sound y t.row t.is in
    let w : t.row.tails ≡ r.row.tails = omega (arith, r.width, t.width) in
    let bases : t.row.base ≡ r.row.base = ts.mark ∙ ap base_of w ∙ sym rs.mark in
    let there : follow r.row.tails t.row.second.low t.row.second.high ys ≡ true = ap (λ n. follow n t.row.second.low t.row.second.high ys) (sym w) ∙ t.follows in
    let codes : glue r.row.tails (x - r.row.base) xs ≡ glue r.row.tails (y - t.row.base) ys = sym r.code ∙ t.code ∙ ap (λ n. glue n (y - t.row.base) ys) w in
    let a = glue_alike r.row.tails r.row.second.low r.row.second.high t.row.second.low t.row.second.high (x - r.row.base) (y - t.row.base) xs ys rs.from rs.to ts.from ts.to r.follows there codes in
    let heads : x ≡ y = omega (arith, a.0, rs.based, ts.based, bases) in
    let k = a.1 in
    let u : x ∷ take r.row.tails xs ≡ y ∷ take r.row.tails ys = cc in
    ap (λ n. take n (x ∷ xs)) r.width ∙ u ∙ sym (ap (λ n. take n (y ∷ ys)) r.width)

-- bytes side by side
skip_same : (w : ℕ) (xs ys : List ℕ) → w ≤ length xs → w ≤ length ys → take w xs ≡ take w ys → matched (singles xs) (singles ys) ≡ matched (singles (drop w xs)) (singles (drop w ys))
skip_same zero xs ys h k e = refl
skip_same (suc w) [] ys h k e = absurd (omega arith)
skip_same (suc w) (x ∷ xs) [] h k e = absurd (omega arith)
skip_same (suc w) (x ∷ xs) (y ∷ ys) h k e =
    let p = same_head x y (take w xs) (take w ys) e in
    ap (λ b. cond (b && true) (matched (singles xs) (singles ys)) compared.Error) (eq-eqb x y p.0) ∙ skip_same w xs ys (omega arith) (omega arith) p.1

apart : (w : ℕ) (xs ys : List ℕ) → w ≤ length xs → w ≤ length ys → (take w xs ≡ take w ys → ⊥) → matched (singles xs) (singles ys) ≡ compared.Error
apart zero xs ys h k e = absurd (e refl)
apart (suc w) [] ys h k e = absurd (omega arith)
apart (suc w) (x ∷ xs) [] h k e = absurd (omega arith)
apart (suc w) (x ∷ xs) (y ∷ ys) h k e =
    ⊎_elim
    (λ q. ap (λ b. cond (b && true) (matched (singles xs) (singles ys)) compared.Error) (eq-eqb x y q) ∙ apart w xs ys (omega arith) (omega arith) (λ z. e (cc)))
    (λ q. ap (λ b. cond (b && true) (matched (singles xs) (singles ys)) compared.Error) (ne_eqb x y q))
    (cases_eq x y)

-- unlike code points differ in a byte that both have
differ : (xs ys : List ℕ) (c t : Cell) → char xs ≡ Some c → char ys ≡ Some t → same c t ≡ false → matched (singles xs) (singles ys) ≡ compared.Error
differ [] ys c t e f h = absurd (none≢some c e)
differ (x ∷ xs) [] c t e f h = absurd (none≢some t f)
differ (x ∷ xs) (y ∷ ys) c t e f h =
    let ef = char_fits (x ∷ xs) c e in
    let ff = char_fits (y ∷ ys) t f in
    ⊎_elim
    (λ q.
    let r = read x xs c e in
    let s = read y ys t f in
    let is : Some r.row ≡ Some s.row = sym r.is ∙ ap (row_of rows) q ∙ s.is in
    let rows_same : r.row ≡ s.row = cc in
    let w : c.1 ≡ t.1 = r.width ∙ ap (λ z. suc z.tails) rows_same ∙ sym s.width in
    apart c.1 (x ∷ xs) (y ∷ ys) ef.1 (omega arith) (λ z.
    let g : Some t ≡ Some c = sym f ∙ char_local (x ∷ xs) (y ∷ ys) c e z in
    let v : t ≡ c = cc in
    both_ways (same c t) h (ap (same c) v ∙ same_self c)))
    (λ q. apart 1 (x ∷ xs) (y ∷ ys) (omega arith) (omega arith) (λ z. q (same_head x y [] [] z).0))
    (cases_eq x y)

-- comparing bytes is comparing code points
matched_by : (ts cs : List Cell) (ys xs : List ℕ) → scan ys ≡ ts → scan xs ≡ cs → total ts ≡ length ys → total cs ≡ length xs → matched (singles xs) (singles ys) ≡ matched cs ts
matched_by [] cs ys xs f e l m = ap (λ v. matched (singles xs) (singles v)) (nil_from_length ys (sym l))
matched_by (t ∷ ts) [] [] xs f e l m = absurd (none≢some t (scan_parts [] t ts f).0)
matched_by (t ∷ ts) [] (y ∷ ys) xs f e l m = ap (λ v. matched (singles v) (singles (y ∷ ys))) (nil_from_length xs (sym m))
matched_by (t ∷ ts) (c ∷ cs) ys xs f e l m =
    let p = scan_parts ys t ts f in
    let q = scan_parts xs c cs e in
    let pf = char_fits ys t p.0 in
    let qf = char_fits xs c q.0 in
    let pl = length-drop t.1 ys in
    let ql = length-drop c.1 xs in
    ⊎_elim
    (λ z.
    let v : c ≡ t = same_from c t z in
    let w : c.1 ≡ t.1 = ap (λ k. k.1) v in
    skip_same c.1 xs ys qf.1 (omega arith) (char_alike xs ys c q.0 (p.0 ∙ ap Some (sym v)))
    ∙ ap (λ n. matched (singles (drop c.1 xs)) (singles (drop n ys))) w
    ∙ matched_by ts cs (drop t.1 ys) (drop c.1 xs) p.1 q.1 (omega arith) (omega arith)
    ∙ sym (ap (λ b. cond b (matched cs ts) compared.Error) z))
    (λ z. differ xs ys c t q.0 p.0 z ∙ sym (ap (λ b. cond b (matched cs ts) compared.Error) z))
    (cases_Bool (same c t))

pub matched-scan : (xs ys : List ℕ) → WellFormed xs → WellFormed ys → matched (singles xs) (singles ys) ≡ matched (scan xs) (scan ys)
matched-scan xs ys w v = matched_by (scan ys) (scan xs) ys xs refl refl v w

-- a code point of several bytes is no ASCII, nor is any of its bytes
glue_grows : (n code : ℕ) (bs : List ℕ) → code ≤ glue n code bs
glue_grows zero code bs = omega arith
glue_grows (suc n) code [] = omega arith
glue_grows (suc n) code (b ∷ bs) = let r = glue_grows n (code * 64 + (b - 0x80)) bs in omega arith

-- with n more bytes to come after the second
glue_high : (n code : ℕ) (bs : List ℕ) → n ≤ length bs → least (suc n) ≤ code → 0x80 ≤ glue n code bs
glue_high zero code bs l h = h
glue_high (suc n) code [] l h = absurd (omega arith)
glue_high (suc n) code (b ∷ bs) l h =
    let r = glue_grows n (code * 64 + (b - 0x80)) bs in
    let two : least (suc (suc n)) ≡ 2 = cond-false _ _ _ (ne_eqb (suc (suc n)) 1 (λ z. omega arith)) in
    omega arith

wide_glue : (n lo hi code : ℕ) (bs : List ℕ) → follow (suc n) lo hi bs ≡ true → 0x80 ≤ lo → least (suc n) ≤ code * 64 + (lo - 0x80) → 0x80 ≤ glue (suc n) code bs
wide_glue n lo hi code [] f l h = absurd (false≢true f)
wide_glue n lo hi code (t ∷ ts) f l h =
    let p = follow_parts n lo hi t ts f in
    let i = inside_bounds lo hi t p.0 in
    glue_high n (code * 64 + (t - 0x80)) ts (follow_fits n 0x80 0xBF ts p.1) (omega arith)

wide_code : (b : ℕ) (bs : List ℕ) (c : Cell) → char (b ∷ bs) ≡ Some c → 0x80 ≤ b → 0x80 ≤ c.0
wide_code b bs c e h =
    let r = read b bs c e in
    let s = row_sound b r.row r.is in
    let some = some_tails b h in
    let more : r.row.tails ≡ suc (r.row.tails - 1) = (let k = s.count in omega arith) in
    ⊎_elim
    (λ z. absurd (omega (arith, z, more)))
    (λ k.
    let high = wide_glue (r.row.tails - 1) r.row.second.low r.row.second.high (b - r.row.base) bs (ap (λ n. follow n r.row.second.low r.row.second.high bs) (sym more) ∙ r.follows) s.from (subst (λ n. least n ≤ (b - r.row.base) * 64 + (r.row.second.low - 0x80)) more k) in
    subst (λ x. 0x80 ≤ x) (ap (λ n. glue n (b - r.row.base) bs) (sym more) ∙ sym r.code) high)
    s.high

wide_bytes : (b : ℕ) (bs : List ℕ) (c : Cell) → char (b ∷ bs) ≡ Some c → 0x80 ≤ b → (k : ℕ) → k < c.1 → 0x80 ≤ get_or (b ∷ bs) k 0
wide_bytes b bs c e h zero l = h
wide_bytes b bs c e h (suc k) l =
    let r = read b bs c e in
    let s = row_sound b r.row r.is in
    let w = r.width in
    (follow_range r.row.tails r.row.second.low r.row.second.high bs s.from s.to r.follows k (omega arith)).0

-- over n bytes, none of which meets the test
bytes_skip : (p : ℕ → Bool) (bs : List ℕ) (n at : ℕ) → at + n ≤ length bs → ((k : ℕ) → at ≤ k → k < at + n → p (get_or bs k 0) ≡ false) → until p (singles (drop at bs)) ≡ n + until p (singles (drop (at + n) bs))
bytes_skip p bs zero at h b = let z : at + 0 ≡ at = omega arith in rw z (omega arith)
bytes_skip p bs (suc n) at h b =
    let one : until p (singles (drop at bs)) ≡ 1 + until p (singles (drop (at + 1) bs)) = ap (λ l. until p (singles l)) (drop_more bs at 0 (omega arith)) ∙ cond-false _ _ _ (b at (omega arith) (omega arith)) in
    let more = bytes_skip p bs n (at + 1) (omega arith) (λ k l m. b k (omega arith) (omega arith)) in
    let sum : at + 1 + n ≡ at + suc n = omega arith in
    let same = ap (λ k. until p (singles (drop k bs))) sum in
    omega arith

-- so the first of an ASCII code is found by bytes
until_by : (code : ℕ) → code < 0x80 → (cs : List Cell) (bs : List ℕ) → scan bs ≡ cs → total cs ≡ length bs → until (is code) (singles bs) ≡ until (is code) cs
until_by code h [] bs e t = ap (λ l. until (is code) (singles l)) (nil_from_length bs (sym t))
until_by code h (c ∷ cs) [] e t = absurd (none≢some c (scan_parts [] c cs e).0)
until_by code h (c ∷ cs) (b ∷ bs) e t =
    let p = scan_parts (b ∷ bs) c cs e in
    let f = char_fits (b ∷ bs) c p.0 in
    let l = length-drop c.1 (b ∷ bs) in
    let ih = until_by code h cs (drop c.1 (b ∷ bs)) p.1 (omega arith) in
    ⊎_elim
    (λ k.
    let is_c : Some c ≡ Some (b, 1) = sym p.0 ∙ char_ascii b bs k in
    let same-c : c ≡ (b, 1) = cc in
    let one : drop c.1 (b ∷ bs) ≡ bs = ap (λ x. drop x.1 (b ∷ bs)) same-c in
    ap (λ n. cond (eqb b code) 0 (1 + n)) (ap (λ l. until (is code) (singles l)) (sym one) ∙ ih) ∙ ap (λ x. cond (eqb x.0 code) 0 (x.1 + until (is code) cs)) (sym same-c))
    (λ k.
    let far = bytes_skip (is code) (b ∷ bs) c.1 0 (omega arith) (λ i _ m. ne_eqb _ _ (λ z. omega (arith, wide_bytes b bs c p.0 k i (omega arith)))) in
    let not : is code c.0 ≡ false = ne_eqb _ _ (λ z. omega (arith, wide_code b bs c p.0 k)) in
    far ∙ ap (λ n. c.1 + until (is code) (singles (drop n (b ∷ bs)))) (zero-add c.1) ∙ ap (λ n. c.1 + n) ih ∙ sym (cond-false _ _ _ not))
    (cases_lt b 0x80)

pub until_ascii : (code : ℕ) (bs : List ℕ) → code < 0x80 → WellFormed bs → until (is code) (singles bs) ≡ until (is code) (scan bs)
until_ascii code bs h w = until_by code h (scan bs) bs refl w
