-- A sheet's tally with the areas that its SUP file rounds: document 02, T-01, "each total rounds its exact sum once". Assumes nothing: these are
-- definitions.
use Rattle.std.specs.Prelude.{ℕ, List, [], ◌∷◌, ℤ}
use Rattle.heading.specs.declared.Header.{Header}
use Rattle.sheet.specs.Tables.{Tables}
use Rattle.classes.specs.declared.Class.TheVariants.{Confine, Road, Water, Building, Parcel}
use Rattle.tally.specs.declared.Taken.{Taken}
use Rattle.tally.specs.Take.{tally_of}
use Rattle.sup.specs.declared.ExactSheet.{ExactSheet}
use Rattle.sup.specs.Sup.{inner_in, net_in, exact_total, exact_confine}
use Rattle.sup.specs.Totals.{total_of}

-- in the file's order, TOTALE left out
unfoldable pub exact_areas : ℕ → List ℤ → List ℤ
exact_areas kind f = net_in f Building ∷ net_in f Parcel ∷ net_in f Road ∷ net_in f Water ∷ inner_in f Confine ∷ exact_confine kind f ∷ []

abbrev pub exact_with : ℕ → Taken → ExactSheet
exact_with kind x =
    record {
      outcome = x.outcome;
      figures = x.tally.figures;
      total = total_of (exact_total kind x.tally.figures);
      areas = exact_areas kind x.tally.figures;
    }

unfoldable pub exact_of : Header → ℕ → Tables → ExactSheet
exact_of h count t = exact_with h.kind (tally_of h count t)
