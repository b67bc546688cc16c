pub mod LineFeeds
pub mod RenamedLaws
pub mod TestPlaces
pub mod DeclaredLines
pub mod SpelledTests
pub mod CodeAgain
pub mod FormAgain
