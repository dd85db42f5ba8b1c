-- What the file of a program says of its targets and of its texts.
use Rattle.std.proofs.Common.{ℕ, ◌<◌, List, [], ◌∷◌, length, arith}
use Rattle.std.specs.List.{AllByRecursion}
use Rattle.std.proofs.lemmas.Bool.{ltb-true}
use Rattle.query_rows.specs.Shape.{IsShort}
use Rattle.query_code.specs.ByteForm.{AllFit}
use Rattle.query_code.specs.QueryFile.{code, columns, constant, file, output, parts, versioned}
use Rattle.query_code.specs.TextForm.{text}
use Rattle.query_code.specs.declared.program.Constant.{Constant}
use Rattle.query_code.specs.declared.program.Constant.TheVariants.{Text, Number, Day, Pattern}
use Rattle.query_code.specs.declared.program.Constant.TheVariants.{Texts, Numbers, Days}
use Rattle.query_code.specs.declared.program.Mode.{Mode}
use Rattle.query_code.specs.declared.program.Output.{Output}
use Rattle.query_code.specs.declared.program.Code.{Code}
use Rattle.query_code.specs.declared.program.Parts.{Parts}
use Rattle.well_shaped.proofs.LoadFacts.{IsShortText}

output_fits : (p : Parts) → file.fits p → output.fits p.output
unfolding file versioned parts
output_fits p fits = fits.0.1.0.1.0.1.1.0

code_fits : (p : Parts) → file.fits p → (code p.mode).fits p.code
unfolding file versioned parts
code_fits p fits = fits.0.1.0.1.0.1.1.1

one_target : (o : Output) → output.fits o → 0 < length o.targets
unfolding output columns
one_target o fits = ltb-true 0 (length o.targets) fits.0.1.1.1.0.0.0.1

pool_fits : (m : Mode) (c : Code) → (code m).fits c → AllFit constant c.pool
unfolding code
pool_fits m c fits = fits.0.1.1.0.0.1.1

text_is_short : (t : List ℕ) → text.fits t → IsShort t
unfolding text
text_is_short t fits = let less : length t < 65536 = fits.0.0 in omega (arith, less)

constant_is_short : (c : Constant) → constant.fits c → IsShortText c
unfolding constant
constant_is_short (Text t) fits = text_is_short t fits.0.1.0
constant_is_short (Number n) fits = tt
constant_is_short (Day d) fits = tt
constant_is_short (Pattern t) fits = tt
constant_is_short (Texts ts) fits = tt
constant_is_short (Numbers ns) fits = tt
constant_is_short (Days ds) fits = tt

pool_is_short : (pool : List Constant) → AllFit constant pool → AllByRecursion IsShortText pool
pool_is_short [] fits = tt
pool_is_short (c ∷ pool) fits = (constant_is_short c fits.0, pool_is_short pool fits.1)

-- one or more
pub some_targets : (p : Parts) → file.fits p → 0 < length p.output.targets
some_targets p fits = one_target p.output (output_fits p fits)

pub texts_are_short : (p : Parts) → file.fits p → AllByRecursion IsShortText p.code.pool
texts_are_short p fits = pool_is_short p.code.pool (pool_fits p.mode p.code (code_fits p fits))
