-- Worked examples: the lines of `h2 show`, as its tests, the streams of examples/ and README's tour
-- have them. Each example computes: a definition that says otherwise is refused.
pub mod FrameLines
pub mod OtherLines
pub mod Styles
