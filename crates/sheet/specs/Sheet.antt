-- Document 01's "Parameter sheet", in its order and words.
use Rattle.std.specs.Prelude.{ℕ, ◌+◌, ◌^◌, List, [], ◌∷◌, ◌++◌, map, ltb, ℤ, pos, negsuc}
use Rattle.words.specs.Word.{pick, word}
use Rattle.rows.specs.Row.{any_value}
use Rattle.rows.specs.declared.Row.{Row}
use Rattle.rows.specs.declared.Access.{Access}
use Rattle.rows.specs.declared.Access.TheVariants.{Rwe, Rw, R}

-- "Number: low..high default", for each of the numbers
abbrev pub span : Access → List ℕ → ℤ → ℤ → ℤ → List Row
span a ns low high d =
    map (λ (n : ℕ). record { number = n; access = a; low = word low; high = word high; standard = word d; mask = any_value }) ns

abbrev pub bits : List ℕ → ℕ
bits [] = 0
bits (n ∷ ns) = 2 ^ n + bits ns

-- "Number: {0, .., high} default": the values of a set, the last its highest
abbrev pub among : Access → ℕ → List ℕ → ℕ → ℤ → List Row
among a n set high d =
    record { number = n; access = a; low = word (pos 0); high = word (pos high); standard = word d; mask = bits set } ∷ []

-- "all 32-bit"
abbrev pub whole : Access → List ℕ → ℤ → List Row
whole a ns d = span a ns (negsuc 2147483647) (pos 2147483647) d

unfoldable pub rwe_rows : List Row
rwe_rows =
    span Rwe (10 ∷ []) (pos 1) (pos 255) (pos 4)
    ++ span Rwe (11 ∷ []) (pos 0) (pos 18000) (pos 2000)
    ++ among Rwe 14 (0 ∷ 1 ∷ 3 ∷ []) 3 (pos 3)
    ++ span Rwe (15 ∷ []) (pos 0) (pos 3) (pos 0)
    ++ span Rwe (43 ∷ []) (pos 0) (pos 200000) (pos 4000)
    ++ span Rwe (44 ∷ []) (pos 0) (pos 100000) (pos 2000)
    ++ span Rwe (47 ∷ []) (pos 0) (pos 200000) (pos 10)
    ++ span Rwe (53 ∷ []) (pos 0) (pos 100000) (pos 50)
    ++ span Rwe (54 ∷ []) (pos 0) (pos 200000) (pos 500)
    ++ span Rwe (56 ∷ []) (pos 6) (pos 2147483647) (pos 65536)
    ++ span Rwe (70 ∷ 71 ∷ 72 ∷ []) (pos 0) (pos 32767) (pos 300)
    ++ span Rwe (73 ∷ []) (pos 0) (pos 32767) (pos 100)
    ++ span Rwe (74 ∷ []) (pos 0) (pos 32767) (pos 50)
    ++ span Rwe (90 ∷ 91 ∷ 92 ∷ 101 ∷ 107 ∷ 108 ∷ 140 ∷ []) (pos 0) (pos 1) (pos 0)
    ++ span Rwe (93 ∷ []) (negsuc 32767) (pos 32767) (pos 0)
    ++ span Rwe (100 ∷ []) (pos 0) (pos 16777215) (pos 4096)
    ++ among Rwe 102 (0 ∷ 2 ∷ []) 2 (pos 0)
    ++ span Rwe (104 ∷ []) (pos 0) (pos 10000) (pos 1000)
    ++ span Rwe (105 ∷ []) (negsuc 199999) (pos 200000) (pos 100)
    ++ span Rwe (106 ∷ []) (pos 0) (pos 65535) (pos 0)
    ++ span Rwe (110 ∷ []) (pos 25000) (pos 100000) (pos 25000)
    ++ span Rwe (141 ∷ []) (pos 60) (pos 300) (pos 300)
    ++ span Rwe (142 ∷ []) (pos 0) (pos 50) (pos 5)

unfoldable pub rw_rows : List Row
rw_rows = whole Rw (50 ∷ 52 ∷ 240 ∷ []) (pos 0) ++ span Rw (209 ∷ 210 ∷ []) (pos 0) (pos 7) (pos 0)

unfoldable pub r_rows : List Row
r_rows =
    whole R (51 ∷ []) (pos 0)
    ++ span R (55 ∷ 211 ∷ 212 ∷ 213 ∷ []) (pos 0) (pos 1) (pos 0)
    ++ span R (220 ∷ []) (pos 0) (pos 1000) (pos 240)
    ++ span R (221 ∷ []) (negsuc 19) (pos 150) (pos 0)

-- by rising number
abbrev pub insert : Row → List Row → List Row
insert x [] = x ∷ []
insert x (y ∷ ys) = pick (ltb x.number y.number) (x ∷ y ∷ ys) (y ∷ insert x ys)

abbrev pub rising : List Row → List Row
rising [] = []
rising (x ∷ xs) = insert x (rising xs)

-- the axis parameters
unfoldable pub axis : List Row
unfolding rwe_rows rw_rows r_rows
axis = rising (rwe_rows ++ rw_rows ++ r_rows)

-- "Globals, bank 0": each is written to its cell at once, so its access has the E of a row that has a cell
unfoldable pub globals : List Row
globals =
    span Rwe (66 ∷ []) (pos 1) (pos 255) (pos 1)
    ++ span Rwe (73 ∷ []) (pos 0) (pos 1) (pos 0)
    ++ span Rwe (76 ∷ []) (pos 0) (pos 255) (pos 2)
    ++ span Rwe (77 ∷ []) (pos 0) (pos 1) (pos 0)

-- "128 (running 0/1) and 130 (program address), read only": no working values of their own
unfoldable pub read_only : List Row
read_only = span R (128 ∷ []) (pos 0) (pos 1) (pos 0) ++ span R (130 ∷ []) (pos 0) (pos 1024) (pos 0)

-- "Bank 2: 0 to 55, all values, default 0"
abbrev pub user_row : Row
user_row =
    record {
      number = 0;
      access = Rwe;
      low = word (negsuc 2147483647);
      high = word (pos 2147483647);
      standard = word (pos 0);
      mask = any_value;
    }
