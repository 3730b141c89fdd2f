pub mod CutLaws
mod CutLemmas
mod Depth
mod Doubled
pub mod Fields
-- the fronts of what is read, and results that go on or stop
mod FormFronts
-- one form behind another, and one of two forms: what both say is what each says
mod FormSteps
mod FormLaws
mod LexLemmas
mod LineLemmas
mod ListReading
mod NumberLemmas
mod OneReading
mod Pages
mod Predictive
mod PrintedIsRead
mod PrintedLexes
mod PrintedNumbers
mod PrintedTexts
-- what one token says is in range where it was read so
pub mod TokensInRange
pub mod Ranged
mod RingLemmas
mod RunLemmas
mod SpelledLemmas
mod SymbolLemmas
mod TextContent
mod TextLemmas
mod TextRuns
-- what the lexer cuts first, and that nothing longer stands there
mod CutTokens
mod TokenLemmas
mod Unfold
pub mod Whole
-- the words of one token, and of forms that join them, write what they say
mod WritesTokens
mod Writes
