-- The lines of a SUP file in the printed order: document 02, T-01, and the specification's 1.2.2. Assumes nothing: these are definitions.
-- `f` are the 24 figures of the sheet's tally, `s` the borders that the file lists, in their order.
use Rattle.std.specs.Prelude.{ℕ, ◌+◌, ◌*◌, List, [], ◌∷◌, ◌++◌, Bool, cond, ◌&&◌, get_or, eqb, ℤ, pos, neg_ℤ, ◌+ℤ◌, ◌-ℤ◌}
use Rattle.std.specs.Int.Signed.{le_z}
use Rattle.laws.specs.Text.{text}
use Rattle.heading.specs.declared.Header.{Header}
use Rattle.classes.specs.declared.Class.{Class}
use Rattle.classes.specs.declared.Class.TheVariants.{Confine, Other, Road, Water, Building, Parcel}
use Rattle.classes.specs.Classes.{index_of}
use Rattle.tally.specs.Tally.{limit}
use Rattle.spelling.specs.Figures.{is_narrow}
use Rattle.sup.specs.Metres.{metres_of}
use Rattle.sup.specs.Lines.{FigureLine, figure_line, fields_line, date_text, lines_text}

-- ---- the figures of a class in the tally

abbrev pub borders_in : List ℤ → Class → ℤ
borders_in f c = get_or f (4 * index_of c) (pos 0)

abbrev pub outer_in : List ℤ → Class → ℤ
outer_in f c = get_or f (4 * index_of c + 1) (pos 0)

abbrev pub islands_in : List ℤ → Class → ℤ
islands_in f c = get_or f (4 * index_of c + 2) (pos 0)

abbrev pub inner_in : List ℤ → Class → ℤ
inner_in f c = get_or f (4 * index_of c + 3) (pos 0)

-- "Areas are net"
abbrev pub net_in : List ℤ → Class → ℤ
net_in f c = outer_in f c -ℤ inner_in f c

-- ---- the two totals, exact

-- the kind of a union sheet
abbrev pub union_kind : ℕ
union_kind = 3

-- "each total rounds its exact sum once": particelle, strade, acque, sviluppi e allegati; "A kind 3 sheet lists its OTHER borders .. with
-- TOTALE and CONFINE both their sum"
unfoldable pub exact_total : ℕ → List ℤ → ℤ
exact_total kind f = cond (eqb kind union_kind) (net_in f Other) (net_in f Parcel +ℤ (net_in f Road +ℤ (net_in f Water +ℤ inner_in f Confine)))

-- "CONFINE is outer only"
unfoldable pub exact_confine : ℕ → List ℤ → ℤ
exact_confine kind f = cond (eqb kind union_kind) (net_in f Other) (outer_in f Confine)

-- "18 where a combined total passes that limit either side of zero": TOTALE alone is combined
unfoldable pub is_limited : ℤ → Bool
is_limited z = le_z (neg_ℤ (pos limit)) z && le_z z (pos limit)

-- ---- the lines with a figure

-- "SVIL-ALL comes from CONFINE's islands"
unfoldable pub head_lines : List ℤ → List FigureLine
head_lines f =
    figure_line (text "N.FABBRIC") (borders_in f Building)
    ∷ figure_line (text "N.PARTIC") (borders_in f Parcel)
    ∷ figure_line (text "N.STRADE") (borders_in f Road)
    ∷ figure_line (text "N.ACQUE") (borders_in f Water)
    ∷ figure_line (text "N.SVIL-ALL") (islands_in f Confine)
    ∷ figure_line (text "FABBRIC") (metres_of (net_in f Building))
    ∷ []

-- a border that the file lists: its code and its exact net
pub record CodeNet : Type 0 where
  pub code : List ℕ
  pub net : ℤ

unfoldable pub listed_lines : List CodeNet → List FigureLine
listed_lines [] = []
listed_lines (b ∷ s) = figure_line b.code (metres_of b.net) ∷ listed_lines s

-- "SBILANCIO is the difference of the two printed figures"
unfoldable pub balance : ℕ → List ℤ → ℤ
balance kind f = metres_of (exact_total kind f) -ℤ metres_of (exact_confine kind f)

unfoldable pub foot_lines : ℕ → List ℤ → List FigureLine
foot_lines kind f =
    figure_line (text "PARTIC") (metres_of (net_in f Parcel))
    ∷ figure_line (text "STRADE") (metres_of (net_in f Road))
    ∷ figure_line (text "ACQUE") (metres_of (net_in f Water))
    ∷ figure_line (text "SVIL-ALL") (metres_of (inner_in f Confine))
    ∷ figure_line (text "TOTALE") (metres_of (exact_total kind f))
    ∷ figure_line (text "CONFINE") (metres_of (exact_confine kind f))
    ∷ figure_line (text "SBILANCIO") (balance kind f)
    ∷ []

unfoldable pub figure_lines : ℕ → List ℤ → List CodeNet → List FigureLine
figure_lines kind f s = head_lines f ++ (listed_lines s ++ foot_lines kind f)

-- ---- the whole

-- the first line: the sheet's name and the date
unfoldable pub sup_text : Header → List ℕ → List ℤ → List CodeNet → List ℕ
sup_text h date f s = fields_line h.name (date_text date) ++ lines_text (figure_lines h.kind f s)

-- the figures of lines
unfoldable pub figures_in : List FigureLine → List ℤ
figures_in [] = []
figures_in (x ∷ s) = x.amount ∷ figures_in s

-- "23 figure over 10 characters (with the first such line, from 1)": the first such of these figures, counted from k; 0 where there is none
unfoldable pub wide_from : ℕ → List ℤ → ℕ
wide_from k [] = 0
wide_from k (z ∷ s) = cond (is_narrow z) (wide_from (k + 1) s) k

-- the date is no figure, and its line is the first
abbrev pub first_wide : ℕ → List ℤ → List CodeNet → ℕ
first_wide kind f s = wide_from 2 (figures_in (figure_lines kind f s))
