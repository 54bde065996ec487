-- std's word for UTF-8, `IsUtf8`, and ours are the same: the bytes of each character are one of the syntax's alternatives,
-- and each alternative is the bytes of a character. Assumes nothing.
use Rattle.std.proofs.Common.{◌≡◌, ℕ, ◌+◌, ◌-◌, ◌*◌, ◌/◌, ◌<◌, ◌≤◌, ◌⊎◌, true, List, [], ◌∷◌, ◌++◌, take, refl, ap, ◌∙◌, subst, inl, inr, lt-ltb, le-ltb, le-leb, arith}
use Rattle.std.proofs.lemmas.Bool.{cases_lt, and_parts, and_from}
use Rattle.std.proofs.lemmas.Str.{encode_ascii}
use Rattle.std.specs.Str.{IsUtf8, IsValidUpTo}
use Rattle.std.proofs.Math.Utf8.{scalar, scalars, encode, encodes, next, low_scalar, scalar_cases}
use Rattle.text.specs.Cells.{total}
use Rattle.utf8.specs.Octets.{scan, WellFormed}
use Rattle.utf8.specs.Rfc.{In, Tail, code_2, code_3, code_4, Char, ascii, two, three_e0, three_e1, three_ed, three_ee, four_f0, four_f1, four_f4, Octets, none, more, Utf8}
use Rattle.utf8.proofs.Rules.{octets_well, well_utf8, utf8_well, longest}

-- the bytes of a character, by their number
encode_2 : (c : ℕ) → 0x80 ≤ c → c < 0x800 → encode c ≡ (192 + c / 64) ∷ next c ∷ []
unfolding encode
encode_2 c l h = rw (le-ltb c 128 l, lt-ltb c 2048 h)

encode_3 : (c : ℕ) → 0x800 ≤ c → c < 0x10000 → encode c ≡ (224 + c / 4096) ∷ next (c / 64) ∷ next c ∷ []
unfolding encode
encode_3 c l h = rw (le-ltb c 128 (omega arith), le-ltb c 2048 l, lt-ltb c 65536 h)

encode_4 : (c : ℕ) → 0x10000 ≤ c → encode c ≡ (240 + c / 262144) ∷ next (c / 4096) ∷ next (c / 64) ∷ next c ∷ []
unfolding encode
encode_4 c l = rw (le-ltb c 128 (omega arith), le-ltb c 2048 (omega arith), le-ltb c 65536 l)

-- from characters to the syntax
char_2 : (c : ℕ) → 0x80 ≤ c → c < 0x800 → Char ((192 + c / 64) ∷ next c ∷ []) c
char_2 c l h =
    let code : code_2 (192 + c / 64) (next c) ≡ c = omega arith in
    subst (Char ((192 + c / 64) ∷ next c ∷ [])) code (two (omega arith) (omega arith))

char_3 : (c : ℕ) → 0x800 ≤ c → c < 0x10000 → (c < 0xD800) ⊎ (0xE000 ≤ c) → Char ((224 + c / 4096) ∷ next (c / 64) ∷ next c ∷ []) c
char_3 c l h s =
    let code : code_3 (224 + c / 4096) (next (c / 64)) (next c) ≡ c = omega arith in
    subst (Char ((224 + c / 4096) ∷ next (c / 64) ∷ next c ∷ [])) code
    (elim (cases_lt c 0x1000) [
      | inl a ↦ three_e0 (omega arith) (omega arith) (omega arith)
      | inr a ↦ elim (cases_lt c 0xD000) [
        | inl b ↦ three_e1 (omega arith) (omega arith) (omega arith)
        | inr b ↦ elim s [
          | inl d ↦ three_ed (omega arith) (omega arith) (omega arith)
          | inr d ↦ three_ee (omega arith) (omega arith) (omega arith)
        ]
      ]
    ])

char_4 : (c : ℕ) → 0x10000 ≤ c → c < 0x110000 → Char ((240 + c / 262144) ∷ next (c / 4096) ∷ next (c / 64) ∷ next c ∷ []) c
char_4 c l h =
    let code : code_4 (240 + c / 262144) (next (c / 4096)) (next (c / 64)) (next c) ≡ c = omega arith in
    subst (Char ((240 + c / 262144) ∷ next (c / 4096) ∷ next (c / 64) ∷ next c ∷ [])) code
    (elim (cases_lt c 0x40000) [
      | inl a ↦ four_f0 (omega arith) (omega arith) (omega arith) (omega arith)
      | inr a ↦ elim (cases_lt c 0x100000) [
        | inl b ↦ four_f1 (omega arith) (omega arith) (omega arith) (omega arith)
        | inr b ↦ four_f4 (omega arith) (omega arith) (omega arith) (omega arith)
      ]
    ])

encode_char : (c : ℕ) → scalar c ≡ true → Char (encode c) c
encode_char c ok =
    let s = scalar_cases c ok in
    elim (cases_lt c 0x80) [
      | inl a ↦ rw (encode_ascii c a) (ascii {a = c} (omega arith))
      | inr a ↦ elim (cases_lt c 0x800) [
        | inl b ↦ rw (encode_2 c a b) (char_2 c a b)
        | inr b ↦ elim (cases_lt c 0x10000) [
          | inl d ↦ rw (encode_3 c b d) (char_3 c b d (elim s [ inl e ↦ inl e | inr e ↦ inr e.0 ]))
          | inr d ↦ rw (encode_4 c d) (char_4 c d (omega arith))
        ]
      ]
    ]

encodes_octets : (cs : List ℕ) → scalars cs ≡ true → Octets (encodes cs) cs
encodes_octets [] ok = none
encodes_octets (c ∷ cs) ok =
    let p = and_parts (scalar c) (scalars cs) ok in more (encode_char c p.0) (encodes_octets cs p.1)

pub well_from_IsUtf8 : (bs : List ℕ) → IsUtf8 bs → WellFormed bs
well_from_IsUtf8 bs u = octets_well bs u.0 (subst (λ l. Octets l u.0) u.1.1 (encodes_octets u.0 u.1.0))

-- from the syntax to characters
high_scalar : (c : ℕ) → 0xE000 ≤ c → c < 0x110000 → scalar c ≡ true
high_scalar c l h = rw (le-ltb c 55296 (omega arith), le-leb 57344 c l, lt-ltb c 1114112 h)

abbrev Encoded : List ℕ → ℕ → Type 0
Encoded os c = (scalar c ≡ true) × (encode c ≡ os)

two_encoded : (a b : ℕ) → In 0xC2 0xDF a → Tail b → Encoded (a ∷ b ∷ []) (code_2 a b)
two_encoded a b h p =
    let c = code_2 a b in
    let x : 192 + c / 64 ≡ a = omega arith in
    let y : next c ≡ b = omega arith in
    (low_scalar c (omega arith), encode_2 c (omega arith) (omega arith) ∙ ap (λ n. n ∷ next c ∷ []) x ∙ ap (λ n. a ∷ n ∷ []) y)

three_encoded : (a b c : ℕ) → In 0xE0 0xEF a → Tail b → Tail c → 0x800 ≤ code_3 a b c → (code_3 a b c < 0xD800) ⊎ (0xE000 ≤ code_3 a b c) → Encoded (a ∷ b ∷ c ∷ []) (code_3 a b c)
three_encoded a b c h p q l s =
    let n = code_3 a b c in
    let x : 224 + n / 4096 ≡ a = omega arith in
    let y : next (n / 64) ≡ b = omega arith in
    let z : next n ≡ c = omega arith in (
      elim s [ inl k ↦ low_scalar n k | inr k ↦ high_scalar n k (omega arith) ],
      encode_3 n l (omega arith) ∙ ap (λ i. i ∷ next (n / 64) ∷ next n ∷ []) x ∙ ap (λ i. a ∷ i ∷ next n ∷ []) y ∙ ap (λ i. a ∷ b ∷ i ∷ []) z,
    )

four_encoded : (a b c d : ℕ) → In 0xF0 0xF4 a → Tail b → Tail c → Tail d → 0x10000 ≤ code_4 a b c d → code_4 a b c d < 0x110000 → Encoded (a ∷ b ∷ c ∷ d ∷ []) (code_4 a b c d)
four_encoded a b c d h p q r l u =
    let n = code_4 a b c d in
    let m : n / 64 ≡ ((a - 0xF0) * 64 + (b - 0x80)) * 64 + (c - 0x80) = omega arith in
    let w : 240 + n / 262144 ≡ a = omega arith in
    let x : next (n / 4096) ≡ b = omega arith in
    let y : next (n / 64) ≡ c = rw m (omega arith) in
    let z : next n ≡ d = omega arith in (
      high_scalar n (omega arith) u,
      encode_4 n l
          ∙ ap (λ i. i ∷ next (n / 4096) ∷ next (n / 64) ∷ next n ∷ []) w
          ∙ ap (λ i. a ∷ i ∷ next (n / 64) ∷ next n ∷ []) x
          ∙ ap (λ i. a ∷ b ∷ i ∷ next n ∷ []) y
          ∙ ap (λ i. a ∷ b ∷ c ∷ i ∷ []) z,
    )

char_encoded : (os : List ℕ) (code : ℕ) → Char os code → Encoded os code
char_encoded os code (ascii {a = a} h) = (low_scalar a (omega arith), encode_ascii a (omega arith))
char_encoded os code (two {a = a} {b = b} h p) = two_encoded a b h p
char_encoded os code (three_e0 {a = a} {b = b} {c = c} h p q) = three_encoded a b c (omega arith) (omega arith) q (omega arith) (inl (omega arith))
char_encoded os code (three_e1 {a = a} {b = b} {c = c} h p q) = three_encoded a b c (omega arith) p q (omega arith) (inl (omega arith))
char_encoded os code (three_ed {a = a} {b = b} {c = c} h p q) = three_encoded a b c (omega arith) (omega arith) q (omega arith) (inl (omega arith))
char_encoded os code (three_ee {a = a} {b = b} {c = c} h p q) = three_encoded a b c (omega arith) p q (omega arith) (inr (omega arith))
char_encoded os code (four_f0 {a = a} {b = b} {c = c} {d = d} h p q r) = four_encoded a b c d (omega arith) (omega arith) q r (omega arith) (omega arith)
char_encoded os code (four_f1 {a = a} {b = b} {c = c} {d = d} h p q r) = four_encoded a b c d (omega arith) p q r (omega arith) (omega arith)
char_encoded os code (four_f4 {a = a} {b = b} {c = c} {d = d} h p q r) = four_encoded a b c d (omega arith) (omega arith) q r (omega arith) (omega arith)

octets_encoded : (bs cs : List ℕ) → Octets bs cs → (scalars cs ≡ true) × (encodes cs ≡ bs)
octets_encoded bs cs none = (refl, refl)
octets_encoded bs cs (more {os = os} {rest = rest} {codes = codes} {code = code} p o) =
    let e = char_encoded os code p in
    let r = octets_encoded rest codes o in
    (and_from _ _ e.0 r.0, ap (λ l. l ++ encodes codes) e.1 ∙ ap (λ l. os ++ l) r.1)

pub IsUtf8-from_well : (bs : List ℕ) → WellFormed bs → IsUtf8 bs
IsUtf8-from_well bs w = let u = well_utf8 bs w in (u.0, octets_encoded bs u.0 u.1)

-- so the library's place at which a text is refused is ours
pub place_from_IsValidUpTo : (bs : List ℕ) (n : ℕ) → IsValidUpTo bs n → total (scan bs) ≡ n
place_from_IsValidUpTo bs n v =
    let m = longest bs in
    let ours : IsUtf8 (take (total (scan bs)) bs) = IsUtf8-from_well _ (utf8_well _ m.1) in
    let theirs : Utf8 (take n bs) = well_utf8 _ (well_from_IsUtf8 (take n bs) v.front) in
    let short = v.short in
    let le = m.2 n (omega arith) theirs in
    elim (cases_lt n (total (scan bs))) [ inl h ↦ absurd (v.longest _ h ours) | inr h ↦ omega arith ]
