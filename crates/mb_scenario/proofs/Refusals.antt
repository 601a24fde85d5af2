-- What is found in a document is found in its text.
use Rattle.std.proofs.Common.{ℕ, List, Result, Ok, Err, IfErr}
use Rattle.toml.specs.Data.{Members}
use Rattle.mb_schema.specs.Check.{document_check}
use Rattle.mb_scenario.specs.Reading.{IsText, Refuses, Tells, in_document}
use Rattle.mb_scenario.specs.declared.read_error.ReadError.{ReadError}
use Rattle.mb_scenario.specs.declared.read_error.ReadError.TheVariants.{NoMemory, NotToml, BadScenario}

pub refused_in : {S : Type 0} (text : List ℕ) (document : Members) (r : Result S ReadError) → IsText text document
    → IfErr r (λ fault. Tells fault (document_check document)) → IfErr r (Refuses text)
refused_in text document (Ok scenario) is h = h
refused_in text document (Err NoMemory) is h = tt
refused_in text document (Err NotToml) is h = absurd h
refused_in text document (Err (BadScenario place reason)) is h = in_document document is h
